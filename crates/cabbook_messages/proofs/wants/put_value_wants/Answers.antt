-- `cabbook_messages::wants::put_value_wants` meets its contract. Assumes nothing.
use Rattle.octets.specs.Ascii.{octets}
use Rattle.cabbook_messages.specs.Wants.{value_wants}
use Rattle.cabbook_messages.proofs.wants.put_value_wants.Goals as goal

pub returns-then-is_escape : goal.returns-then-is_escape
unfolding octets value_wants
returns-then-is_escape c = rw (← c.is_escape.ensures, c.if-is_escape.true) c.put_all.ensures

pub returns : goal.returns
unfolding value_wants
returns c = rw (← c.is_escape.ensures, c.if-is_escape.false) c.put_kind_wants.ensures
