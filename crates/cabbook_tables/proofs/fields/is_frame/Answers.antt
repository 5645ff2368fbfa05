-- `cabbook_tables::fields::is_frame` meets its contract. Assumes nothing.
use borrow.Author.Tests.{eq-eqb, ne_eqb}
use Rattle.cabbook_tables.proofs.fields.is_frame.Goals as goal

pub returns-then-row-eq-BEGIN : goal.returns-then-row-eq-BEGIN
returns-then-row-eq-BEGIN c = rw (eq-eqb c.args.number 1 c.if-row-eq-BEGIN.true)

pub returns-then-row-eq-END : goal.returns-then-row-eq-END
returns-then-row-eq-END c = rw (ne_eqb c.args.number 1 c.if-row-eq-BEGIN.false, eq-eqb c.args.number 2 c.if-row-eq-END.true)

pub returns : goal.returns
returns c = rw (ne_eqb c.args.number 1 c.if-row-eq-BEGIN.false, ne_eqb c.args.number 2 c.if-row-eq-END.false)
