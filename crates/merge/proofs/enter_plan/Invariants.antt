-- `merge::enter_plan` meets its contract. Assumes nothing.
use mathlib.Core.Path.{◌≡◌}
use mathlib.Core.Bool.{true}
use Prim.Native.Nat.{◌-◌}
use lib.ListN.{length, drop}
use Rattle.merge_partners.specs.Pairs.{joined}
use Rattle.merge.specs.Plans.{enter_all}
use Rattle.merge.proofs.enter_plan.Given as goal

abbrev pub invariant-loop-at : goal.invariant-loop-at
invariant-loop-at l = enter_all l.x.copy.now l.x.records.now l.x.lines l.y.copy.now l.y.records.now l.y.lines (joined true l.initial.p l.initial.t) l.plan ≡ enter_all l.x.copy.now l.x.records.now l.x.lines l.y.copy.now l.y.records.now l.y.lines (joined true l.p l.t) (drop l.at l.plan)

abbrev pub decreases-loop-at : goal.decreases-loop-at
decreases-loop-at l = length l.plan - l.at
