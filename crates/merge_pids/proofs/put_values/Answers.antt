-- `merge_pids::put_values` meets its contract. Assumes nothing.
use mathlib.Core.Path.{◌≡◌, refl, sym, ap, ◌∙◌}
use Prim.Native.Nat.{suc, ◌-◌, ◌+◌}
use native.Mathlib.Omega.{arith}
use lib.ListN.{length, drop, length-drop}
use Rattle.merge_pids.specs.Marks.{Marked, marked, put_all, values_marks}
use Rattle.merge_pids.proofs.ValueLaws.{values_none, values_further, values_stop, values_on}
use Rattle.merge_pids.proofs.put_values.Goals as goal

pub loop-place-init : goal.loop-place-init
loop-place-init c = (suc (length (drop c.args.from c.args.s.now)), rw length-drop (omega arith), refl, refl)

pub value_at-v-requires : goal.value_at-v-requires
value_at-v-requires c = record { classes = c.requires; at_in_bounds = c.loop-place-test.true }

pub slice_bounds-put_value-count : goal.slice_bounds-put_value-count
slice_bounds-put_value-count c = c.value_at-v.ensures.start_le_end.0

pub slice_bounds-put_value-start : goal.slice_bounds-put_value-start
slice_bounds-put_value-start c = c.value_at-v.ensures.start_le_end.0

pub slice_bounds-put_value-end : goal.slice_bounds-put_value-end
slice_bounds-put_value-end c = c.value_at-v.ensures.start_le_end.1

pub shape_of-out-then-octet_at-ne44 : goal.shape_of-out-then-octet_at-ne44
shape_of-out-then-octet_at-ne44 c = c.put_value-next.auto.out ∙ c.loop-place.invariant.2

pub returns-then-octet_at-ne44 : goal.returns-then-octet_at-ne44
returns-then-octet_at-ne44 c =
    let l = c.loop-place in
    let o : c.octet_at.result ≡ 44 → ⊥ = c.if-octet_at-ne44.true in
    c.put_value-next.ensures ∙ sym (l.invariant.3 ∙ values_stop c.args.line l.invariant.0 (omega (arith, l.invariant.1)) c.args.s.now l.place c.value_at-v.result c.value_at-v.ensures.value (marked l.next l.out) (λ e. o (c.octet_at.ensures ∙ e)))

pub overflow_add-place : goal.overflow_add-place
overflow_add-place c = omega (arith, c.value_at-v.ensures.start_le_end.2)

pub loop-place-smaller : goal.loop-place-smaller
loop-place-smaller c = omega (arith, values_further c.args.line c.loop-place.invariant.0 (omega (arith, c.loop-place.invariant.1)) c.args.s.now c.loop-place.place c.value_at-v.result c.value_at-v.ensures.value (marked c.loop-place.next c.loop-place.out), c.loop-place-test.true)

pub loop-place-preserved : goal.loop-place-preserved
loop-place-preserved c =
    let l = c.loop-place in
    let far = values_further c.args.line l.invariant.0 (omega (arith, l.invariant.1)) c.args.s.now l.place c.value_at-v.result c.value_at-v.ensures.value (marked l.next l.out) in
    (l.invariant.0 - 1, omega (arith, far, l.invariant.1, c.loop-place-test.true), c.put_value-next.auto.out ∙ l.invariant.2, l.invariant.3 ∙ values_on c.args.line l.invariant.0 (omega (arith, l.invariant.1)) c.args.s.now l.place c.value_at-v.result c.value_at-v.ensures.value (marked l.next l.out) (sym c.octet_at.ensures ∙ c.if-octet_at-ne44.false) ∙ ap (λ (st : Marked). put_all st (values_marks c.args.line (l.invariant.0 - 1) (drop (c.value_at-v.result.next + 1) c.args.s.now))) (sym c.put_value-next.ensures))

pub shape_of-out : goal.shape_of-out
shape_of-out c = c.loop-place.invariant.2

pub returns : goal.returns
unfolding put_all
returns c = sym (c.loop-place.invariant.3 ∙ rw (values_none c.args.line c.loop-place.invariant.0 c.args.s.now c.loop-place.place c.loop-place-test.false))
