-- `property_table::find_any` meets its contract. Assumes nothing.
use Prim.Native.Nat.{◌-◌, ◌%◌}
use Rattle.property_table.proofs.RowLaws.{Along}
use Rattle.property_table.proofs.find_any.Given as goal

abbrev pub invariant-loop-row : goal.invariant-loop-row
invariant-loop-row l = Along l.name l.row

-- rows go up, and 0 is the end
abbrev pub decreases-loop-row : goal.decreases-loop-row
decreases-loop-row l = (44 - l.row) % 44
