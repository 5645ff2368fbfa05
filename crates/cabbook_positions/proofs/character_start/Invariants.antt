-- `cabbook_positions::character_start` meets its contract. Assumes nothing.
use Rattle.std.proofs.Common.{◌≡◌, ◌≤◌}
use Rattle.cabbook_positions.specs.Positions.{back_to, starts}
use Rattle.cabbook_positions.proofs.character_start.Given as goal

abbrev pub invariant-loop-i : goal.invariant-loop-i
invariant-loop-i l = (back_to (starts l.s) l.place ≡ back_to (starts l.s) l.i) × (l.i ≤ l.place)
