-- `program_visible::put_visible` meets its contract. Assumes nothing.
use mathlib.Core.Path.{◌≡◌}
use Prim.Native.Nat.{◌-◌, ◌≤◌}
use lib.ListN.{length, drop}
use Rattle.program_output.specs.Pages.{page, added}
use Rattle.program_visible.specs.Visible.{visible}
use Rattle.program_visible.proofs.put_visible.Given as goal

abbrev pub invariant-loop-i : goal.invariant-loop-i
invariant-loop-i l = (length l.room ≡ length l.initial.room) × (l.i ≤ length l.text) × (added (visible (drop l.i l.text)) (page l.next l.room) ≡ added (visible l.text) (page l.at l.initial.room))

abbrev pub decreases-loop-i : goal.decreases-loop-i
decreases-loop-i l = length l.text - l.i
