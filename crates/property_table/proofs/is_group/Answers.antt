-- `property_table::is_group` meets its contract. Assumes nothing.
use Rattle.octets.specs.Ascii.{octets}
use Rattle.property_table.specs.Rows.{is_group}
use Rattle.property_table.proofs.is_group.Goals as goal

pub returns : goal.returns
unfolding is_group octets
returns c = c.same_name.ensures
