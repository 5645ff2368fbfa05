-- `property_table::spells` meets its contract. Assumes nothing.
use mathlib.Core.Path.{◌≡◌}
use lib.ListN.{drop}
use Rattle.octets.specs.Cases.{same}
use Rattle.property_table.specs.Rows.{row_at}
use Rattle.property_table.proofs.spells.Given as goal

abbrev pub invariant-loop-i : goal.invariant-loop-i
invariant-loop-i l = (same l.name (row_at l.row).name ≡ same (drop l.i l.name) (drop l.i (row_at l.row).name))
