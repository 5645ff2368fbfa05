-- `value_kinds::lacks` meets its contract. Assumes nothing.
use mathlib.Core.Path.{◌≡◌}
use mathlib.Core.Bool.{◌&&◌}
use Prim.Native.Nat.{◌≤◌}
use lib.Dec.{eqb}
use lib.ListN.{length, drop}
use Rattle.value_kinds.specs.Octets.{neither}
use Rattle.octets.specs.Counts.{all_in}
use Rattle.value_kinds.proofs.lacks.Given as goal

abbrev pub invariant-loop-x : goal.invariant-loop-x
invariant-loop-x l = (l.x-index ≤ length l.s) × (all_in (neither l.a l.b) l.s ≡ (eqb l.marks 0 && all_in (neither l.a l.b) (drop l.x-index l.s)))
