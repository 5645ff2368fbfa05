-- `cabbook_positions::line_start` meets its contract. Assumes nothing.
use Rattle.std.proofs.Common.{◌≡◌, ◌≤◌, min, length}
use Rattle.cabbook_positions.specs.Positions.{back_to, opens}
use Rattle.cabbook_positions.proofs.line_start.Given as goal

abbrev pub invariant-loop-i : goal.invariant-loop-i
invariant-loop-i l = (back_to (opens l.s) (min l.place (length l.s)) ≡ back_to (opens l.s) l.i) × (l.i ≤ length l.s)
