-- `label_marks::units::first_bad` meets its contract. Assumes nothing.
use mathlib.Core.Path.{◌≡◌}
use Prim.Native.Nat.{◌≤◌, ◌+◌, ◌-◌}
use lib.ListN.{length, drop}
use Rattle.octets.specs.Classes.{quoted}
use Rattle.utf8.specs.Characters.{first_bad}
use Rattle.label_marks.proofs.units.first_bad.Given as goal

abbrev pub invariant-loop-i : goal.invariant-loop-i
invariant-loop-i l = (l.i ≤ length l.s) × (first_bad quoted l.s ≡ l.i + first_bad quoted (drop l.i l.s))

abbrev pub decreases-loop-i : goal.decreases-loop-i
decreases-loop-i l = length l.s - l.i
