-- `cabbook_reasons::is_mark` meets its contract. Assumes nothing.
use borrow.Author.Tests.{not-true, not-false}
use Rattle.octets.specs.Ascii.{octets}
use Rattle.cabbook_reasons.specs.Reasons.{marking}
use Rattle.cabbook_reasons.proofs.is_mark.Goals as goal

pub returns-then-not-closes_with : goal.returns-then-not-closes_with
unfolding marking octets
returns-then-not-closes_with c = rw (← c.closes_with.ensures, not-true c.closes_with.result c.if-not-closes_with.true-raw)

pub returns-then-opens_with : goal.returns-then-opens_with
unfolding marking octets
returns-then-opens_with c = rw (← c.closes_with.ensures, not-false c.closes_with.result c.if-not-closes_with.false-raw, ← c.opens_with.ensures, c.if-opens_with.true)

pub returns-then-opens_with-2 : goal.returns-then-opens_with-2
unfolding marking octets
returns-then-opens_with-2 c = rw (← c.closes_with.ensures, not-false c.closes_with.result c.if-not-closes_with.false-raw, ← c.opens_with.ensures, c.if-opens_with.false, ← c.opens_with-2.ensures, c.if-opens_with-2.true)

pub returns : goal.returns
unfolding marking octets
returns c = rw (← c.closes_with.ensures, not-false c.closes_with.result c.if-not-closes_with.false-raw, ← c.opens_with.ensures, c.if-opens_with.false, ← c.opens_with-2.ensures, c.if-opens_with-2.false) c.opens_with-3.ensures
