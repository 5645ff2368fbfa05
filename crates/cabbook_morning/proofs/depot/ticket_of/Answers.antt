-- `cabbook_morning::depot::ticket_of` meets its contract. Assumes nothing.
use borrow.Author.Tests.{lt-ltb, le-ltb}
use Rattle.cabbook_morning.proofs.depot.ticket_of.Goals as goal

pub returns-then-n-gt-LARGEST : goal.returns-then-n-gt-LARGEST
returns-then-n-gt-LARGEST c = rw (lt-ltb 4294967295 c.args.n c.if-n-gt-LARGEST.true)

pub returns : goal.returns
returns c = rw (le-ltb 4294967295 c.args.n c.if-n-gt-LARGEST.false)
