-- `merge::enter_plan` meets its contract. Assumes nothing.
use mathlib.Core.Path.{refl, sym, ap, ◌∙◌}
use Prim.Native.Nat.{ℕ}
use native.Mathlib.Omega.{arith}
use lib.ListN.{get_or}
use Rattle.merge_partners.specs.Pairs.{first_of}
use Rattle.merge.specs.Plans.{enter_step}
use Rattle.merge.proofs.EnterLaws.{enter_end, enter_odd, enter_on, enter_off}
use Rattle.merge.proofs.enter_plan.Goals as goal

pub loop-at-init : goal.loop-at-init
loop-at-init c = refl

pub returns-then-plan-at-lt-PAIR : goal.returns-then-plan-at-lt-PAIR
returns-then-plan-at-lt-PAIR c =
    let a = c.args in
    let l = c.loop-at in
    sym (ap first_of (l.invariant ∙ enter_odd a.x.now.copy.now a.x.now.records.now a.x.now.lines a.y.now.copy.now a.y.now.records.now a.y.now.lines a.plan.now l.at l.p l.t c.loop-at-test.true c.if-plan-at-lt-PAIR.true))

pub bounds-plan-at-in-loop-at : goal.bounds-plan-at-in-loop-at
bounds-plan-at-in-loop-at c = omega (arith, c.if-plan-at-lt-PAIR.false)

pub returns-then-not-enter_step : goal.returns-then-not-enter_step
returns-then-not-enter_step c =
    let a = c.args in
    let l = c.loop-at in
    let step = enter_step a.x.now.copy.now a.x.now.records.now a.x.now.lines a.y.now.copy.now a.y.now.records.now a.y.now.lines l.p l.t in
    let e = c.enter_step.ensures ∙ ap (λ (i : ℕ). step i c.wide_number-j.result) c.wide_number-i.ensures.0 ∙ ap (step (get_or a.plan.now l.at 0)) c.wide_number-j.ensures.0 in
    sym (ap first_of (l.invariant ∙ enter_off a.x.now.copy.now a.x.now.records.now a.x.now.lines a.y.now.copy.now a.y.now.records.now a.y.now.lines a.plan.now l.at l.p l.t _ _ _ e (omega (arith, c.if-plan-at-lt-PAIR.false)) c.if-not-enter_step.true))

pub loop-at-smaller : goal.loop-at-smaller
loop-at-smaller c = omega (arith, c.if-plan-at-lt-PAIR.false)

pub loop-at-preserved : goal.loop-at-preserved
loop-at-preserved c =
    let a = c.args in
    let l = c.loop-at in
    let step = enter_step a.x.now.copy.now a.x.now.records.now a.x.now.lines a.y.now.copy.now a.y.now.records.now a.y.now.lines l.p l.t in
    let e = c.enter_step.ensures ∙ ap (λ (i : ℕ). step i c.wide_number-j.result) c.wide_number-i.ensures.0 ∙ ap (step (get_or a.plan.now l.at 0)) c.wide_number-j.ensures.0 in
    l.invariant ∙ enter_on a.x.now.copy.now a.x.now.records.now a.x.now.lines a.y.now.copy.now a.y.now.records.now a.y.now.lines a.plan.now l.at l.p l.t _ _ _ e (omega (arith, c.if-plan-at-lt-PAIR.false)) c.if-not-enter_step.false

pub returns : goal.returns
returns c =
    let a = c.args in
    let l = c.loop-at in
    sym (ap first_of (l.invariant ∙ enter_end a.x.now.copy.now a.x.now.records.now a.x.now.lines a.y.now.copy.now a.y.now.records.now a.y.now.lines a.plan.now l.at l.p l.t c.loop-at-test.false))
