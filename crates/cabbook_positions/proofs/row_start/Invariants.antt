-- `cabbook_positions::row_start` meets its contract. Assumes nothing.
use Rattle.std.proofs.Common.{◌≡◌, ◌≤◌, min, length}
use Rattle.cabbook_positions.specs.Positions.{back_to, begins}
use Rattle.cabbook_positions.proofs.row_start.Given as goal

abbrev pub invariant-loop-i : goal.invariant-loop-i
invariant-loop-i l = (back_to (begins l.s) (min l.place (length l.s)) ≡ back_to (begins l.s) l.i) × (l.i ≤ length l.s)
