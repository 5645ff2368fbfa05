-- `console_answers::put_room_end` meets its contract. Assumes nothing.
use Rattle.octets.specs.Ascii.{octets}
use Rattle.console_answers.specs.Texts.{room_end}
use Rattle.console_answers.proofs.put_room_end.Goals as goal

pub returns-then-kept : goal.returns-then-kept
unfolding room_end octets
returns-then-kept c = rw c.if-kept.true c.put_end.ensures

pub returns : goal.returns
unfolding room_end octets
returns c = rw c.if-kept.false c.put_all.ensures
