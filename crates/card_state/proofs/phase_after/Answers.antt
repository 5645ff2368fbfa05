-- `card_state::phase_after` meets its contract. Assumes nothing.
use borrow.Author.Tests.{eq-eqb, ne_eqb}
use Rattle.card_state.specs.State.{phase_after}
use Rattle.card_state.proofs.phase_after.Goals as goal

pub returns-then-row-eq-BEGIN : goal.returns-then-row-eq-BEGIN
unfolding phase_after
returns-then-row-eq-BEGIN c = simp (eq-eqb _ _ c.if-row-eq-BEGIN.true)

pub returns : goal.returns
unfolding phase_after
returns c = simp (ne_eqb _ _ c.if-row-eq-BEGIN.false)
