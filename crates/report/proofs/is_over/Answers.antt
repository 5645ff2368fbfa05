-- `report::is_over` meets its contract. Assumes nothing.
use mathlib.Core.Path.{sym, ◌∙◌}
use native.Mathlib.Omega.{arith}
use Rattle.report.proofs.StepLaws.{over_all, over_here, over_later, over_end}
use Rattle.report.proofs.is_over.Goals as goal

pub loop-place-init : goal.loop-place-init
loop-place-init c = over_all _ _

pub returns-then-wide_number-w : goal.returns-then-wide_number-w
returns-then-wide_number-w c =
    let l = c.loop-place in
    let n = c.wide_number.ensures in
    let p = c.loop-place-test.true in
    let a = c.args in
    sym (l.invariant ∙ over_here a.counts.now a.w.now l.place p (omega (arith, n.0, n.1, c.if-wide_number-w.true)))

pub loop-place-preserved : goal.loop-place-preserved
loop-place-preserved c =
    let l = c.loop-place in
    let n = c.wide_number.ensures in
    let p = c.loop-place-test.true in
    let a = c.args in
    (l.invariant ∙ over_later a.counts.now a.w.now l.place p (omega (arith, n.0, n.1, c.if-wide_number-w.false)))

pub returns : goal.returns
returns c =
    let l = c.loop-place in
    let a = c.args in
    sym (l.invariant ∙ over_end a.counts.now a.w.now l.place c.loop-place-test.false)
