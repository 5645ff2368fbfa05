-- `version3_judge::is_laden` meets its contract. Assumes nothing.
use mathlib.Core.Path.{sym, ◌∙◌}
use borrow.Author.Tests.{eq-eqb, ne_eqb}
use Rattle.card_judge.specs.Judge.{laden}
use Rattle.version3_judge.proofs.is_laden.Goals as goal

pub returns-then-x-ne0 : goal.returns-then-x-ne0
unfolding laden
returns-then-x-ne0 c = simp (sym c.is_framing.ensures ∙ c.if-is_framing.true, ne_eqb _ _ c.if-x-ne0.true)

pub returns-else-x-ne0 : goal.returns-else-x-ne0
unfolding laden
returns-else-x-ne0 c = simp (sym c.is_framing.ensures ∙ c.if-is_framing.true, eq-eqb _ _ c.if-x-ne0.false)

pub returns-else-is_framing : goal.returns-else-is_framing
unfolding laden
returns-else-is_framing c = c.if-is_framing.false ∙ simp (sym c.is_framing.ensures ∙ c.if-is_framing.false)
