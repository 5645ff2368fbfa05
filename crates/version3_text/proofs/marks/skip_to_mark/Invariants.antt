-- `version3_text::marks::skip_to_mark` meets its contract. Assumes nothing.
use mathlib.Core.Path.{◌≡◌}
use Prim.Native.Nat.{◌≤◌, ◌+◌, ◌-◌}
use lib.ListN.{length, drop}
use Rattle.octets.specs.Classes.{run}
use Rattle.version3_text.specs.Renewed.{unmarked}
use Rattle.version3_text.proofs.marks.skip_to_mark.Given as goal

abbrev pub invariant-loop-i : goal.invariant-loop-i
invariant-loop-i l = (l.i ≤ length l.s) × (l.from + run unmarked (drop l.from l.s) ≡ l.i + run unmarked (drop l.i l.s))

abbrev pub decreases-loop-i : goal.decreases-loop-i
decreases-loop-i l = length l.s - l.i
