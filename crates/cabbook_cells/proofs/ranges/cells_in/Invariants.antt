-- `cabbook_cells::ranges::cells_in` meets its contract. Assumes nothing.
use Rattle.std.proofs.Common.{◌≡◌, length}
use Rattle.cabbook_cells.specs.Ranges.{cells_in}
use Rattle.cabbook_cells.proofs.ranges.cells_in.Given as goal

abbrev pub invariant-loop-left : goal.invariant-loop-left
invariant-loop-left l = cells_in l.left l.code ≡ cells_in l.t l.code

abbrev pub decreases-loop-left : goal.decreases-loop-left
decreases-loop-left l = length l.left
