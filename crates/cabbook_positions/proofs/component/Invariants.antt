-- `cabbook_positions::component` meets its contract. Assumes nothing.
use mathlib.Core.Path.{◌≡◌}
use Prim.Native.Nat.{◌+◌, ◌-◌, ◌≤◌}
use lib.ListN.{length, drop}
use Rattle.octets.specs.Scan.{scan}
use Rattle.cabbook_positions.specs.Components.{bare_step, bare_length}
use Rattle.cabbook_positions.proofs.component.Given as goal

abbrev pub invariant-loop-i : goal.invariant-loop-i
invariant-loop-i l = (l.i ≤ length l.s) × (l.i + scan (bare_step l.semicolons) (drop l.i l.s) 0 ≡ bare_length l.semicolons l.s)

abbrev pub decreases-loop-i : goal.decreases-loop-i
decreases-loop-i l = length l.s - l.i
