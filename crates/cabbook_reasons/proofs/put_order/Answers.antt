-- `cabbook_reasons::put_order` meets its contract. Assumes nothing.
use borrow.Author.Tests.{le-leb, lt-leb}
use Rattle.octets.specs.Ascii.{octets}
use Rattle.cabbook_reasons.specs.Reasons.{order_words}
use Rattle.cabbook_reasons.proofs.put_order.Goals as goal

pub returns-then-place-s : goal.returns-then-place-s
unfolding order_words octets
returns-then-place-s c = rw (le-leb _ _ c.if-place-s.true) c.put_all.ensures

pub returns : goal.returns
unfolding order_words octets
returns c = rw (lt-leb _ _ c.if-place-s.false) c.put_between.ensures
