-- `card_state::is_again` meets its contract. Assumes nothing.
use borrow.Author.Tests.{eq-eqb, ne_eqb}
use Rattle.card_state.specs.State.{is_seen}
use Rattle.card_state.proofs.is_again.Goals as goal

pub returns-then-flag-eq0 : goal.returns-then-flag-eq0
unfolding is_seen
returns-then-flag-eq0 c = simp (← c.flag_of-flag.ensures, eq-eqb _ 0 c.if-flag-eq0.true)

pub returns : goal.returns
unfolding is_seen
returns c = simp (← c.flag_of-flag.ensures, ne_eqb _ 0 c.if-flag-eq0.false)
