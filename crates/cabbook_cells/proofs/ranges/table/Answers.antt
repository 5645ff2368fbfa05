-- `cabbook_cells::ranges::table` meets its contract: one computed test. Assumes nothing.
use mathlib.Core.Path.{refl}
use Rattle.cabbook_cells.specs.Ranges.{ranges}
use Rattle.cabbook_cells.proofs.ranges.table.Goals as goal

pub returns : goal.returns
unfolding ranges
returns c = refl
