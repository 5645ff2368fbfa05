-- `console_entries::entries::copy_length` meets its contract. Assumes nothing.
use borrow.Author.Tests.{lt-ltb, le-ltb}
use Rattle.console_entries.specs.Entries.{copy_length}
use Rattle.console_entries.proofs.entries.copy_length.Goals as goal

pub returns-then-n-lt-RECORD_LENGTH : goal.returns-then-n-lt-RECORD_LENGTH
unfolding copy_length
returns-then-n-lt-RECORD_LENGTH c = rw (lt-ltb _ _ c.if-n-lt-RECORD_LENGTH.true)

pub returns : goal.returns
unfolding copy_length
returns c = rw (le-ltb _ _ c.if-n-lt-RECORD_LENGTH.false) c.past_line.ensures
