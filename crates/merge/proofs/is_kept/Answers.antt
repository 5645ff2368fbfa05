-- `merge::is_kept` meets its contract. Assumes nothing.
use borrow.Author.Tests.{eq-eqb, ne_eqb}
use Rattle.merge.specs.Plans.{is_kept}
use Rattle.merge.proofs.is_kept.Goals as goal

pub returns-then-partner-eq0 : goal.returns-then-partner-eq0
unfolding is_kept
returns-then-partner-eq0 c = rw (eq-eqb c.args.partner 0 c.if-partner-eq0.true)

pub returns : goal.returns
unfolding is_kept
returns c = rw (ne_eqb c.args.partner 0 c.if-partner-eq0.false)
