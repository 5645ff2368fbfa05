-- `reader_records::write_records` meets its contract. Assumes nothing.
use mathlib.Core.Path.{◌≡◌, sym, ap, ◌∙◌}
use mathlib.Core.List.{List, ◌++◌}
use Prim.Native.Nat.{ℕ, ◌+◌, ◌-◌, ◌≤◌}
use native.Mathlib.Omega.{arith}
use lib.ListN.{length, take, drop, length-append}
use Rattle.octets.proofs.Writes.{room, put, finish}
use Rattle.line_folds.specs.Folds.{line_length}
use Rattle.line_folds.specs.Logical.{raw_lines}
use Rattle.line_folds.proofs.LineLaws.{lines_end}
use Rattle.line_folds.proofs.SpanLaws.{part_length}
use Rattle.reader_records.specs.Records.{record_of, records_from}
use Rattle.reader_records.proofs.RecordLaws.{ends_at_cr, record_length, records_turn}
use Rattle.reader_records.proofs.write_records.Goals as goal

pub record_of-r-requires : goal.record_of-r-requires
record_of-r-requires c =
    let s = c.args.s.now in
    let l = c.loop-at in
    let e = c.next_cr-end.result in
    let he : e ≡ l.at + line_length (drop l.at s) = ends_at_cr s l.at e c.requires.by_index c.next_cr-end.ensures.1 in
    let len : length (take (e - l.at) (drop l.at s)) ≡ e - l.at = part_length s l.at e c.loop-at-test.true he c.next_cr-end.ensures.0 in
    record { classes = c.requires.classes; lists = c.requires.lists; l_bound = rw len (omega (arith, he, c.next_cr-end.ensures.0, c.requires.s_len_bound)) }

pub put_record-requires : goal.put_record-requires
put_record-requires c =
    let s = c.args.s.now in
    let l = c.loop-at in
    let e = c.next_cr-end.result in
    let he : e ≡ l.at + line_length (drop l.at s) = ends_at_cr s l.at e c.requires.by_index c.next_cr-end.ensures.1 in
    let d = c.args.edition in
    let x = take (e - l.at) (drop l.at s) in
    let turn = records_turn d s l.at e c.loop-at-test.true he c.next_cr-end.ensures.0 in
    let fits : l.k + 8 ≤ length l.out = omega (arith, room l.invariant c.requires.s_in_bounds, ap length turn ∙ length-append (record_of d l.at x) (records_from d (e + 2) (raw_lines (drop (e + 2) s))), record_length d l.at x) in
    fits

pub overflow_add-k : goal.overflow_add-k
overflow_add-k c =
    let s = c.args.s.now in
    let l = c.loop-at in
    let e = c.next_cr-end.result in
    let he : e ≡ l.at + line_length (drop l.at s) = ends_at_cr s l.at e c.requires.by_index c.next_cr-end.ensures.1 in
    let d = c.args.edition in
    let x = take (e - l.at) (drop l.at s) in
    let turn = records_turn d s l.at e c.loop-at-test.true he c.next_cr-end.ensures.0 in
    let fits : l.k + 8 ≤ length l.out = omega (arith, room l.invariant c.requires.s_in_bounds, ap length turn ∙ length-append (record_of d l.at x) (records_from d (e + 2) (raw_lines (drop (e + 2) s))), record_length d l.at x) in
    omega (arith, fits, l.invariant.same)

pub loop-at-preserved : goal.loop-at-preserved
loop-at-preserved c =
    let s = c.args.s.now in
    let l = c.loop-at in
    let e = c.next_cr-end.result in
    let he : e ≡ l.at + line_length (drop l.at s) = ends_at_cr s l.at e c.requires.by_index c.next_cr-end.ensures.1 in
    let d = c.args.edition in
    let x = take (e - l.at) (drop l.at s) in
    let turn = records_turn d s l.at e c.loop-at-test.true he c.next_cr-end.ensures.0 in
    let fits : l.k + 8 ≤ length l.out = omega (arith, room l.invariant c.requires.s_in_bounds, ap length turn ∙ length-append (record_of d l.at x) (records_from d (e + 2) (raw_lines (drop (e + 2) s))), record_length d l.at x) in
    let eight = record_length d l.at x in
    rw eight at (put l.invariant (record_of d l.at x) _ _ turn (rw eight fits)
    (c.put_record.ensures ∙ ap (λ (r : List ℕ). take l.k l.out ++ r ++ drop (l.k + 8) l.out) c.record_of-r.ensures
    ∙ ap (λ (n : ℕ). take l.k l.out ++ record_of d l.at x ++ drop (l.k + n) l.out) (sym eight)))

pub returns : goal.returns
unfolding records_from
returns c =
    let l = c.loop-at in
    let s = c.args.s.now in
    let f = finish (rw (lines_end s l.at c.loop-at-test.false) at l.invariant) in
    f.1 ∙ ap (λ (n : ℕ). records_from c.args.edition 0 (raw_lines s) ++ drop n c.args.out.now) f.0
