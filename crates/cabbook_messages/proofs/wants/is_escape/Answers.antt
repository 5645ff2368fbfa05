-- `cabbook_messages::wants::is_escape` meets its contract. Assumes nothing.
use borrow.Author.Tests.{eq-eqb, ne_eqb, not-true, not-false}
use Rattle.cabbook_messages.proofs.wants.is_escape.Goals as goal

pub returns-then-not-after_backslash : goal.returns-then-not-after_backslash
returns-then-not-after_backslash c = rw (not-true c.args.after_backslash c.if-not-after_backslash.true-raw)

pub returns-then-kind-eq-URI : goal.returns-then-kind-eq-URI
returns-then-kind-eq-URI c = rw (not-false c.args.after_backslash c.if-not-after_backslash.false-raw, eq-eqb _ _ c.if-kind-eq-URI.true)

pub returns : goal.returns
returns c = rw (not-false c.args.after_backslash c.if-not-after_backslash.false-raw, ne_eqb _ _ c.if-kind-eq-URI.false)
