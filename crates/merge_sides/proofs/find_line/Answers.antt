-- `merge_sides::find_line` meets its contract. Assumes nothing.
use borrow.Author.Tests.{eq-eqb, ne_eqb}
use mathlib.Core.Path.{◌≡◌, sym, ap, ◌∙◌}
use native.Mathlib.Nat.{sub-zero}
use native.Mathlib.Omega.{arith}
use Rattle.merge_sides.specs.Lines.{first_line}
use Rattle.merge_sides.proofs.Walks.{left, over}
use Rattle.merge_sides.proofs.find_line.Goals as goal

pub loop-i-init : goal.loop-i-init
loop-i-init c = ap (first_line c.args.rs.now c.args.row 0) (sym (sub-zero c.args.n))

pub field_at-requires : goal.field_at-requires
field_at-requires c = omega arith

pub returns-then-field_at-row : goal.returns-then-field_at-row
unfolding first_line
returns-then-field_at-row c = record { value = sym (c.loop-i.invariant ∙ rw (left c.args.n c.loop-i.i c.loop-i-test.true, eq-eqb _ _ (sym c.field_at.ensures.value ∙ c.if-field_at-row.true))); upper_bound = omega arith }

pub loop-i-preserved : goal.loop-i-preserved
unfolding first_line
loop-i-preserved c = c.loop-i.invariant ∙ rw (left c.args.n c.loop-i.i c.loop-i-test.true, ne_eqb _ _ (λ e. c.if-field_at-row.false (c.field_at.ensures.value ∙ e)))

pub returns : goal.returns
unfolding first_line
returns c =
    let all : c.loop-i.i ≡ c.args.n = omega (arith, c.loop-i-test.false) in
    record { value = sym (c.loop-i.invariant ∙ rw (over c.args.n c.loop-i.i c.loop-i-test.false) all); upper_bound = omega arith }
