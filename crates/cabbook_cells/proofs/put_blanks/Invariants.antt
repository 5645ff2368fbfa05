-- `cabbook_cells::put_blanks` meets its contract. Assumes nothing.
use mathlib.Core.Path.{◌≡◌}
use Prim.Native.Nat.{◌-◌, ◌≤◌}
use lib.ListN.{length, drop}
use Rattle.program_output.specs.Pages.{page, added}
use Rattle.cabbook_cells.specs.Cells.{blanks}
use Rattle.cabbook_cells.proofs.put_blanks.Given as goal

abbrev pub invariant-loop-i : goal.invariant-loop-i
invariant-loop-i l = (length l.room ≡ length l.initial.room) × (l.i ≤ length l.text) × (added (blanks (drop l.i l.text)) (page l.next l.room) ≡ added (blanks l.text) (page l.at l.initial.room))

abbrev pub decreases-loop-i : goal.decreases-loop-i
decreases-loop-i l = length l.text - l.i
