-- `merge_sides::same_property` meets its contract. Assumes nothing.
use borrow.Author.Tests.{eq-eqb, ne_eqb}
use mathlib.Core.Path.{◌≡◌, sym, ap, ◌∙◌}
use mathlib.Core.List.{List}
use Prim.Native.Nat.{ℕ}
use native.Mathlib.Omega.{arith}
use Rattle.octets.specs.Cases.{same}
use Rattle.merge_sides.specs.Lines.{field_at, name_at, same_property}
use Rattle.merge_sides.proofs.Walks.{part_at, sum_at}
use Rattle.merge_sides.proofs.same_property.Goals as goal

pub returns-then-row-field_at : goal.returns-then-row-field_at
unfolding same_property
returns-then-row-field_at c = rw (ne_eqb (field_at c.args.ra.now c.args.i 0) (field_at c.args.rb.now c.args.j 0) (λ e. c.if-row-field_at.true (c.field_at-row.ensures.value ∙ e ∙ sym c.field_at.ensures.value)))

pub returns-then-row-ne-OTHER : goal.returns-then-row-ne-OTHER
unfolding same_property
returns-then-row-ne-OTHER c = rw (eq-eqb (field_at c.args.ra.now c.args.i 0) (field_at c.args.rb.now c.args.j 0) (sym c.field_at-row.ensures.value ∙ c.if-row-field_at.false ∙ c.field_at.ensures.value), ne_eqb (field_at c.args.ra.now c.args.i 0) 0 (λ e. c.if-row-ne-OTHER.true (c.field_at-row.ensures.value ∙ e)))

pub overflow_add-a : goal.overflow_add-a
overflow_add-a c = omega (arith, c.name_start-a.ensures.upper_bound, c.field_at-2.ensures.upper_bound)

pub overflow_add-b : goal.overflow_add-b
overflow_add-b c = omega (arith, c.name_start-b.ensures.upper_bound, c.field_at-3.ensures.upper_bound)

pub returns : goal.returns
unfolding same_property name_at
returns c =
    let x : c.part-x.result.now ≡ name_at c.args.ca.now c.args.ra.now c.args.i = c.part-x.ensures ∙ part_at c.args.ca.now c.name_start-a.ensures.value (sum_at c.name_start-a.ensures.value c.field_at-2.ensures.value) in
    let y : c.part-y.result.now ≡ name_at c.args.cb.now c.args.rb.now c.args.j = c.part-y.ensures ∙ part_at c.args.cb.now c.name_start-b.ensures.value (sum_at c.name_start-b.ensures.value c.field_at-3.ensures.value) in
    rw (eq-eqb (field_at c.args.ra.now c.args.i 0) (field_at c.args.rb.now c.args.j 0) (sym c.field_at-row.ensures.value ∙ c.if-row-field_at.false ∙ c.field_at.ensures.value), eq-eqb (field_at c.args.ra.now c.args.i 0) 0 (sym c.field_at-row.ensures.value ∙ c.if-row-ne-OTHER.false))
    (c.same_name.ensures ∙ ap (λ (m : List ℕ). same m c.part-y.result.now) x ∙ ap (same (name_at c.args.ca.now c.args.ra.now c.args.i)) y)
