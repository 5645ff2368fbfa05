-- `property_table::table` meets its contract. Assumes nothing.
use mathlib.Core.Path.{refl}
use Rattle.octets.specs.Ascii.{octets}
use Rattle.octets.specs.Cases.{lower}
use Rattle.octets.specs.Tables.{entries_from, TableOf}
use Rattle.property_table.specs.Rows.{rows, newer, all_rows, row_at, initial, starts_as, agrees, choice, first_of, next_of, kind_at, single, marks, once_at, framing, takes_value, rule_at, name_entries, entries, firsts, index_entries}
use Rattle.property_table.proofs.table.Goals as goal

pub returns : goal.returns
unfolding TableOf entries_from entries name_entries row_at initial starts_as agrees choice first_of firsts index_entries lower next_of kind_at single marks once_at framing takes_value rule_at rows newer all_rows octets
returns c = record { lines = refl; index = refl }
