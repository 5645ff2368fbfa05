-- `cabbook_reasons::find_mark` meets its contract. Assumes nothing.
use Rattle.std.proofs.Common.{◌≡◌, ◌-◌, ◌≤◌, max, length}
use Rattle.cabbook_reasons.specs.Reasons.{mark_from}
use Rattle.cabbook_reasons.proofs.find_mark.Given as goal

abbrev pub invariant-loop-i : goal.invariant-loop-i
invariant-loop-i l = (mark_from l.s l.i (length l.s - l.i) ≡ mark_from l.s l.place (length l.s - l.place)) × (l.i ≤ max l.place (length l.s))
