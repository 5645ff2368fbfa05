-- `cabbook_messages::words::table` meets its contract: one computed test. Assumes nothing.
use mathlib.Core.Path.{refl}
use Rattle.octets.specs.Ascii.{octets}
use Rattle.cabbook_messages.specs.Words.{messages, table_of}
use Rattle.cabbook_messages.proofs.words.table.Goals as goal

pub returns : goal.returns
unfolding messages table_of octets
returns c = refl
