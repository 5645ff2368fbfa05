-- `merge_sides::name_start` meets its contract. Assumes nothing.
use borrow.Author.Tests.{eq-eqb, ne_eqb}
use mathlib.Core.Path.{sym, ap, ◌∙◌}
use Prim.Native.Nat.{ℕ, ◌+◌}
use native.Mathlib.Omega.{arith}
use Rattle.merge_sides.specs.Lines.{field_at, name_start_at}
use Rattle.merge_sides.proofs.Walks.{sum_at}
use Rattle.merge_sides.proofs.name_start.Goals as goal

pub returns-then-group-eq0 : goal.returns-then-group-eq0
unfolding name_start_at
returns-then-group-eq0 c = record { value = rw (eq-eqb (field_at c.args.rs.now c.args.i 3) 0 (sym c.field_at-group.ensures.value ∙ c.if-group-eq0.true)) c.field_at-start.ensures.value; upper_bound = omega (arith, c.field_at-start.ensures.upper_bound) }

pub returns : goal.returns
unfolding name_start_at
returns c = record { value = rw (ne_eqb (field_at c.args.rs.now c.args.i 3) 0 (λ e. c.if-group-eq0.false (c.field_at-group.ensures.value ∙ e))) (ap (λ (k : ℕ). k + 1) (sum_at c.field_at-start.ensures.value c.field_at-group.ensures.value)); upper_bound = omega (arith, c.field_at-start.ensures.upper_bound, c.field_at-group.ensures.upper_bound) }
