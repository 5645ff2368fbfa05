-- `merge_sides::value_of` meets its contract. Assumes nothing.
use Rattle.merge_sides.proofs.Walks.{part_at, part_short, sum_at}
use mathlib.Core.Path.{ap, ◌∙◌}
use Prim.Native.Nat.{◌+◌}
use native.Mathlib.Omega.{arith}
use lib.ListN.{length}
use Rattle.merge_sides.specs.Lines.{value_at}
use Rattle.merge_sides.proofs.value_of.Goals as goal

pub overflow_add-end : goal.overflow_add-end
overflow_add-end c = omega (arith, c.field_at-start.ensures.upper_bound, c.field_at.ensures.upper_bound)

pub returns : goal.returns
unfolding value_at
returns c = record { result_value = c.part.ensures ∙ part_at c.args.c.now c.field_at-2.ensures.value (sum_at c.field_at-start.ensures.value c.field_at.ensures.value); result_in_bounds = omega (arith, ap length c.part.ensures, part_short c.args.c.now c.field_at-2.result (c.field_at-start.result + c.field_at.result)) }
