-- `line_breaks::find_lone` meets its contract. Assumes nothing.
use mathlib.Core.Path.{◌≡◌}
use Prim.Native.Nat.{◌+◌, ◌-◌, ◌≤◌}
use lib.ListN.{length, drop}
use Rattle.octets.specs.Scan.{scan}
use Rattle.line_breaks.specs.Lone.{lone_step}
use Rattle.line_breaks.proofs.find_lone.Given as goal

abbrev pub invariant-loop-i : goal.invariant-loop-i
invariant-loop-i l = (l.i ≤ length l.s) × (scan lone_step l.s 0 ≡ l.i + scan lone_step (drop l.i l.s) 0)

abbrev pub decreases-loop-i : goal.decreases-loop-i
decreases-loop-i l = length l.s - l.i
