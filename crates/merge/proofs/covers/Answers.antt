-- `merge::covers` meets its contract. Assumes nothing.
use mathlib.Core.Path.{refl, sym, ◌∙◌}
use Rattle.merge_sides.proofs.Walks.{left, over}
use Rattle.merge.specs.Plans.{covers_from}
use Rattle.merge.proofs.covers.Goals as goal

pub loop-i-init : goal.loop-i-init
loop-i-init c = (refl)

pub returns-then-not-is_kept : goal.returns-then-not-is_kept
unfolding covers_from
returns-then-not-is_kept c = sym (c.loop-i.invariant ∙ rw (left 4096 c.loop-i.i c.loop-i-test.true, sym c.is_kept.ensures ∙ c.if-not-is_kept.true))

pub loop-i-preserved : goal.loop-i-preserved
unfolding covers_from
loop-i-preserved c = (c.loop-i.invariant ∙ rw (left 4096 c.loop-i.i c.loop-i-test.true, sym c.is_kept.ensures ∙ c.if-not-is_kept.false))

pub returns : goal.returns
unfolding covers_from
returns c = sym (c.loop-i.invariant ∙ rw (over 4096 c.loop-i.i c.loop-i-test.false))
