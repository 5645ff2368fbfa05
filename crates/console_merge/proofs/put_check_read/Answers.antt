-- `console_merge::put_check_read` meets its contract. Assumes nothing.
use mathlib.Core.Path.{ap, ◌∙◌}
use mathlib.Core.List.{List}
use Prim.Native.Nat.{ℕ, ◌/◌}
use lib.ListN.{length, replicate}
use Rattle.octets.specs.Slices.{part}
use Rattle.program_output.specs.Pages.{page, added}
use Rattle.console_parts.proofs.PartLaws.{numbers_length}
use Rattle.console_merge.specs.MergeAnswers.{checked_text, check_with, numbers_of}
use Rattle.console_merge.proofs.MergeLaws.{front}
use Rattle.console_merge.proofs.put_check_read.Goals as goal

pub returns : goal.returns
returns c =
    let a = c.args in
    let o = page a.at a.out.now in
    let t = c.part_of-t.result.now in
    let n = length t / 4 in
    c.put_check.ensures
    ∙ ap (λ (l : List ℕ). added (checked_text (check_with a.s.now l)) o)
    (c.numbers.ensures ∙ ap (λ (l : List ℕ). part l 0 n) c.put_numbers.ensures ∙ front (numbers_of t) (replicate 17500 0) n (numbers_length t 0 n) ∙ ap (λ (l : List ℕ). numbers_of l) c.part_of-t.ensures.result_value)
