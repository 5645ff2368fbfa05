-- `program_numbers::hex::octets_of` meets its contract. Assumes nothing.
use mathlib.Core.Path.{sym, ◌∙◌}
use Rattle.octets.specs.Ascii.{octets}
use Rattle.utf8.proofs.Chars.{is_so, is_not}
use Rattle.program_numbers.proofs.ListLaws.{told}
use Rattle.program_numbers.proofs.HexLaws.{paired_all, octets_none, octets_bad, octets_over, octets_all}
use Rattle.program_numbers.proofs.hex.octets_of.Goals as goal

pub returns-then-same : goal.returns-then-same
unfolding octets
returns-then-same c =
    let a = c.args in
    let none = sym (told _ a.word.now (octets "-") c.same.ensures) ∙ c.if-same.true in
    sym (octets_none a.word.now a.out.now none)

pub returns-then-not-is_paired : goal.returns-then-not-is_paired
unfolding octets
returns-then-not-is_paired c =
    let a = c.args in
    let some = sym (told _ a.word.now (octets "-") c.same.ensures) ∙ c.if-same.false in
    sym (octets_bad a.word.now a.out.now some (is_not _ _ c.is_paired.ensures c.if-not-is_paired.true-raw))

pub returns-then-out-n : goal.returns-then-out-n
unfolding octets
returns-then-out-n c =
    let a = c.args in
    let some = sym (told _ a.word.now (octets "-") c.same.ensures) ∙ c.if-same.false in
    sym (octets_over a.word.now a.out.now some (is_so _ _ c.is_paired.ensures c.if-not-is_paired.false-raw) c.if-out-n.true)

pub decode-requires : goal.decode-requires
decode-requires c = record { word_value = paired_all c.args.word.now (is_so _ _ c.is_paired.ensures c.if-not-is_paired.false-raw); word_in_bounds = c.if-out-n.false }

pub returns : goal.returns
unfolding octets
returns c =
    let a = c.args in
    let w = a.word.now in
    let some = sym (told _ w (octets "-") c.same.ensures) ∙ c.if-same.false in
    let all = octets_all w a.out.now some (is_so _ _ c.is_paired.ensures c.if-not-is_paired.false-raw) c.if-out-n.false in
    rw c.decode.ensures (sym all)
