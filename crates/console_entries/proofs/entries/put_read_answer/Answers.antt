-- `console_entries::entries::put_read_answer` meets its contract. Assumes nothing.
use borrow.Author.Tests.{lt-ltb, le-ltb}
use Rattle.console_entries.specs.Entries.{read_answer}
use Rattle.console_entries.proofs.entries.put_read_answer.Goals as goal

pub returns-then-r-gt-ROOM : goal.returns-then-r-gt-ROOM
unfolding read_answer
returns-then-r-gt-ROOM c = rw (lt-ltb _ _ c.if-r-gt-ROOM.true) c.put_bad.ensures

pub returns-then-k-gt-ROOM : goal.returns-then-k-gt-ROOM
unfolding read_answer
returns-then-k-gt-ROOM c = rw (le-ltb _ _ c.if-r-gt-ROOM.false, lt-ltb _ _ c.if-k-gt-ROOM.true) c.put_bad-then-k-gt-ROOM.ensures

pub returns : goal.returns
unfolding read_answer
returns c = rw (le-ltb _ _ c.if-r-gt-ROOM.false, le-ltb _ _ c.if-k-gt-ROOM.false) c.put_read_fresh.ensures
