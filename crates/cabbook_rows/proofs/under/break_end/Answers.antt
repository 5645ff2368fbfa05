-- `cabbook_rows::under::break_end` meets its contract. Assumes nothing.
use borrow.Author.Tests.{lt-ltb, le-ltb}
use lib.ListN.{length}
use Rattle.cabbook_rows.proofs.under.break_end.Goals as goal

pub returns-then-place-s : goal.returns-then-place-s
returns-then-place-s c = rw (lt-ltb c.args.place (length c.args.s.now) c.if-place-s.true)

pub returns : goal.returns
returns c = rw (le-ltb c.args.place (length c.args.s.now) c.if-place-s.false) c.line_end.ensures.0
