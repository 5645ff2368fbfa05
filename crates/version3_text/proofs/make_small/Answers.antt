-- src/lib.rt:27:9
use borrow.Author.Tests.{eq-eqb, ne_eqb}
use Rattle.version3_text.specs.Renewed.{small}
use Rattle.version3_text.proofs.make_small.Goals as goal

pub returns-then-b-eq78 : goal.returns-then-b-eq78
unfolding small
returns-then-b-eq78 c = simp (eq-eqb c.args.b 78 c.if-b-eq78.true)

-- src/lib.rt:23:1
pub returns-else-b-eq78 : goal.returns-else-b-eq78
unfolding small
returns-else-b-eq78 c = simp (ne_eqb c.args.b 78 c.if-b-eq78.false)
