-- `cabbook_positions::parts` meets its contract. Assumes nothing.
use Rattle.std.proofs.Common.{◌≡◌, ◌+◌, ◌≤◌, false, drop}
use Rattle.cabbook_positions.specs.Components.{splits}
use Rattle.cabbook_positions.proofs.parts.Given as goal

abbrev pub invariant-loop-octet : goal.invariant-loop-octet
invariant-loop-octet l = (l.n + splits l.waits (drop l.octet-index l.s) ≡ 1 + splits false l.s) × (l.n ≤ 1 + l.octet-index)
