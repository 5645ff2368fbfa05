-- `console_requests::names::row_of` meets its contract. Assumes nothing.
use Rattle.octets.specs.Ascii.{octets}
use Rattle.console_requests.specs.Names.{rows, row_of}
use Rattle.console_requests.proofs.names.row_of.Goals as goal

pub returns : goal.returns
unfolding row_of rows octets
returns c = c.first_of.ensures
