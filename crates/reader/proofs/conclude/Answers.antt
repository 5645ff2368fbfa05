-- `reader::conclude` meets its contract. Assumes nothing.
use mathlib.Core.Path.{refl}
use borrow.Author.Tests.{eq-eqb, ne_eqb}
use Rattle.reader.specs.Outcome.{verdict_of}
use Rattle.card_state.specs.Kept.{card_of, step_of}
use Rattle.reader.proofs.conclude.Goals as goal

pub returns-then-c-eq-BEFORE_BEGIN : goal.returns-then-c-eq-BEFORE_BEGIN
unfolding verdict_of step_of card_of
returns-then-c-eq-BEFORE_BEGIN c = simp (c.in-Ok.is, eq-eqb _ _ c.if-c-eq-BEFORE_BEGIN.true) (λ store. refl)

pub returns-else-c-eq-BEFORE_BEGIN : goal.returns-else-c-eq-BEFORE_BEGIN
unfolding verdict_of step_of card_of
returns-else-c-eq-BEFORE_BEGIN c = simp (c.in-Ok.is, ne_eqb _ _ c.if-c-eq-BEFORE_BEGIN.false) (λ store. refl)

pub returns-in-Placed : goal.returns-in-Placed
unfolding verdict_of step_of
returns-in-Placed c = simp (c.in-Err.is, c.in-Placed.is) (λ store. refl)

pub returns-in-Octet : goal.returns-in-Octet
unfolding verdict_of step_of
returns-in-Octet c = simp (c.in-Err.is, c.in-Octet.is) (λ store. refl)
