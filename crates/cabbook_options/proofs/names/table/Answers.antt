-- `cabbook_options::names::table` meets its contract. Assumes nothing.
use mathlib.Core.Path.{refl}
use Rattle.octets.specs.Ascii.{octets}
use Rattle.cabbook_options.specs.Names.{names, table_of}
use Rattle.cabbook_options.proofs.names.table.Goals as goal

pub returns : goal.returns
unfolding names table_of octets
returns c = refl
