-- `value_kinds::is_printing` meets its contract. Assumes nothing.
use mathlib.Core.Path.{◌≡◌}
use mathlib.Core.Bool.{◌&&◌}
use Prim.Native.Nat.{◌≤◌}
use lib.Dec.{eqb}
use lib.ListN.{length, drop}
use Rattle.value_kinds.specs.Octets.{graphic, holds}
use Rattle.octets.specs.Counts.{all_in}
use Rattle.value_kinds.proofs.is_printing.Given as goal

abbrev pub invariant-loop-x : goal.invariant-loop-x
invariant-loop-x l = (l.x-index ≤ length l.s) × (all_in (holds graphic) l.s ≡ (eqb l.hidden 0 && all_in (holds graphic) (drop l.x-index l.s)))
