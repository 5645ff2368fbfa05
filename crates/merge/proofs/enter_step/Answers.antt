-- `merge::enter_step` meets its contract. Assumes nothing.
use mathlib.Core.Path.{sym, ◌∙◌}
use Rattle.merge.specs.Plans.{enter_step}
use Rattle.merge.proofs.enter_step.Goals as goal

pub returns-then-not-same_property : goal.returns-then-not-same_property
unfolding enter_step
returns-then-not-same_property c = rw (sym c.same_property.ensures ∙ c.if-not-same_property.true)

pub returns : goal.returns
unfolding enter_step
returns c = rw (sym c.same_property.ensures ∙ c.if-not-same_property.false) c.enter.ensures
