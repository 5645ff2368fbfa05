-- `property_table::next_chosen` meets its contract. Assumes nothing.
use mathlib.Core.Path.{◌∙◌}
use Rattle.property_table.proofs.RowLaws.{listed}
use Rattle.property_table.proofs.next_chosen.Goals as goal

pub returns : goal.returns
returns c = c.entry.ensures ∙ (listed c.args.rows.now c.requires.lists c.args.row c.requires.row_lt_all).link
