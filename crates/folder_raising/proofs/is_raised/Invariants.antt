-- `folder_raising::is_raised` meets its contract. Assumes nothing.
use mathlib.Core.Path.{◌≡◌}
use Prim.Native.Nat.{◌-◌, ◌≤◌}
use lib.ListN.{length}
use Rattle.folder_raising.specs.Walk.{Kept, raised}
use Rattle.folder_raising.specs.declared.Spot.TheVariants.{Name}
use Rattle.folder_raising.proofs.is_raised.Given as goal

abbrev pub invariant-loop-i : goal.invariant-loop-i
invariant-loop-i l = (l.i ≤ length l.s) × (Kept Name l.i l.s → raised l.s ≡ l.s)

abbrev pub decreases-loop-i : goal.decreases-loop-i
decreases-loop-i l = length l.s - l.i
