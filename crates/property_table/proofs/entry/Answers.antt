-- `property_table::entry` meets its contract. Assumes nothing.
use Rattle.property_table.proofs.entry.Goals as goal

pub returns : goal.returns
returns c = c.wide.ensures
