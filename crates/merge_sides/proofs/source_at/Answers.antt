-- `merge_sides::source_at` meets its contract. Assumes nothing.
use Rattle.line_parser.proofs.PartLaws.{run_le}
use mathlib.Core.Path.{◌≡◌, ap, ◌∙◌}
use mathlib.Core.List.{List}
use Prim.Native.Nat.{ℕ}
use native.Mathlib.Omega.{arith}
use lib.ListN.{length-take}
use Rattle.octets.specs.Classes.{run, digit}
use Rattle.merge_sides.specs.Lines.{value_at}
use Rattle.merge_sides.specs.Sources.{source_in, source_at}
use Rattle.merge_sides.proofs.Walks.{source_short, source_long}
use Rattle.merge_sides.proofs.source_at.Goals as goal

pub slice_bounds-read_number-end : goal.slice_bounds-read_number-end
slice_bounds-read_number-end c = simp length-take (omega (arith, c.digits_end-end.ensures, run_le digit c.value_of-v.result.now))

pub overflow_add-from : goal.overflow_add-from
overflow_add-from c = omega (arith, c.digits_end-end.ensures, run_le digit c.value_of-v.result.now, c.value_of-v.ensures.result_in_bounds, c.field_at-from.ensures.upper_bound)

pub returns-then-v-end : goal.returns-then-v-end
unfolding source_at
returns-then-v-end c =
    let v = c.value_of-v.result.now in
    let d : c.digits_end-end.result ≡ run digit v = omega (arith, c.digits_end-end.ensures) in
    source_short v c.field_at-from.result c.digits_end-end.result c.read_number-number.result c.narrow.result d c.read_number-number.ensures.value c.if-v-end.true c.narrow.ensures
    ∙ ap (λ (w : List ℕ). source_in w c.field_at-from.result) c.value_of-v.ensures.result_value ∙ ap (source_in (value_at c.args.c.now c.args.rs.now c.args.i)) c.field_at-from.ensures.value

pub overflow_add-from-2 : goal.overflow_add-from-2
overflow_add-from-2 c = omega (arith, c.digits_end-end.ensures, run_le digit c.value_of-v.result.now, c.value_of-v.ensures.result_in_bounds, c.field_at-from.ensures.upper_bound)

pub overflow_add-from-3 : goal.overflow_add-from-3
overflow_add-from-3 c = omega (arith, c.digits_end-end.ensures, run_le digit c.value_of-v.result.now, c.value_of-v.ensures.result_in_bounds, c.field_at-from.ensures.upper_bound)

pub returns : goal.returns
unfolding source_at
returns c =
    let v = c.value_of-v.result.now in
    let d : c.digits_end-end.result ≡ run digit v = omega (arith, c.digits_end-end.ensures) in
    source_long v c.field_at-from.result c.digits_end-end.result c.read_number-number.result c.narrow-2.result d c.read_number-number.ensures.value c.narrow-3.result c.if-v-end.false c.narrow-2.ensures c.narrow-3.ensures
    ∙ ap (λ (w : List ℕ). source_in w c.field_at-from.result) c.value_of-v.ensures.result_value ∙ ap (source_in (value_at c.args.c.now c.args.rs.now c.args.i)) c.field_at-from.ensures.value
