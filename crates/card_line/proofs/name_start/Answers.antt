-- `card_line::name_start` meets its contract. Assumes nothing.
use borrow.Author.Tests.{eq-eqb, ne_eqb}
use Rattle.card_line.proofs.name_start.Goals as goal

pub returns-then-group_length-eq0 : goal.returns-then-group_length-eq0
returns-then-group_length-eq0 c = simp (eq-eqb _ _ c.if-group_length-eq0.true)

pub returns : goal.returns
returns c = simp (ne_eqb _ _ c.if-group_length-eq0.false)
