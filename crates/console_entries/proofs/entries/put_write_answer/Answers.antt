-- `console_entries::entries::put_write_answer` meets its contract. Assumes nothing.
use borrow.Author.Tests.{lt-ltb, le-ltb}
use Rattle.console_entries.specs.Entries.{write_answer}
use Rattle.console_entries.proofs.entries.put_write_answer.Goals as goal

pub returns-then-r-gt-ROOM : goal.returns-then-r-gt-ROOM
unfolding write_answer
returns-then-r-gt-ROOM c = rw (lt-ltb _ _ c.if-r-gt-ROOM.true) c.put_bad.ensures

pub returns : goal.returns
unfolding write_answer
returns c = rw (le-ltb _ _ c.if-r-gt-ROOM.false) c.put_write_fresh.ensures
