-- `merge_pids::read_number` meets its contract. Assumes nothing.
use mathlib.Core.Path.{refl, sym, ap, ◌∙◌}
use Prim.Native.Nat.{ℕ, ◌+◌}
use native.Mathlib.Omega.{arith}
use lib.ListN.{drop}
use Rattle.merge_pids.specs.Numbers.{digits}
use Rattle.merge_pids.proofs.NumberLaws.{digits_turn, digits_end}
use Rattle.merge_pids.proofs.read_number.Goals as goal

pub loop-b-init : goal.loop-b-init
loop-b-init c = (omega arith, refl)

pub append_digit-n-requires : goal.append_digit-n-requires
append_digit-n-requires c = c.loop-b.invariant.0

pub loop-b-preserved : goal.loop-b-preserved
loop-b-preserved c = (c.append_digit-n.ensures.upper_bound, c.loop-b.invariant.1 ∙ digits_turn _ _ _ c.loop-b-test.true ∙ ap (λ (k : ℕ). digits k (drop (c.loop-b.b-index + 1) c.args.s.now)) (sym c.append_digit-n.ensures.value))

pub overflow_cast-result : goal.overflow_cast-result
overflow_cast-result c = omega (arith, c.loop-b.invariant.0)

pub returns : goal.returns
returns c = record { value = sym (c.loop-b.invariant.1 ∙ digits_end _ _ _ c.loop-b-test.false); upper_bound = c.loop-b.invariant.0 }
