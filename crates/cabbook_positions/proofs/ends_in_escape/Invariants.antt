-- `cabbook_positions::ends_in_escape` meets its contract. Assumes nothing.
use Rattle.std.proofs.Common.{◌≡◌, false, drop}
use Rattle.cabbook_positions.specs.Components.{open_after}
use Rattle.cabbook_positions.proofs.ends_in_escape.Given as goal

abbrev pub invariant-loop-octet : goal.invariant-loop-octet
invariant-loop-octet l = open_after l.waits (drop l.octet-index l.s) ≡ open_after false l.s
