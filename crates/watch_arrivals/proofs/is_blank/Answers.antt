-- `watch_arrivals::is_blank` meets its contract. Assumes nothing.
use borrow.Author.Tests.{eq-eqb, ne_eqb}
use Rattle.watch_arrivals.specs.Arrivals.{blank}
use Rattle.watch_arrivals.proofs.is_blank.Goals as goal

pub returns-then-b-eq32 : goal.returns-then-b-eq32
unfolding blank
returns-then-b-eq32 c = simp (eq-eqb _ _ c.if-b-eq32.true)

pub returns-else-b-eq32 : goal.returns-else-b-eq32
unfolding blank
returns-else-b-eq32 c = simp (ne_eqb _ _ c.if-b-eq32.false)
