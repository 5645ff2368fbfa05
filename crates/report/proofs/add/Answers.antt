-- `report::add` meets its contract. Assumes nothing.
use mathlib.Core.Path.{refl}
use native.Mathlib.Omega.{arith}
use lib.ListN.{length-replicate, length-set}
use Rattle.report.proofs.StepLaws.{sum_fits, sums_next, sums_done}
use Rattle.report.proofs.add.Goals as goal

pub loop-place-init : goal.loop-place-init
loop-place-init c = (simp length-replicate, refl)

pub overflow_add-next : goal.overflow_add-next
overflow_add-next c =
    let l = c.loop-place in
    let a = c.args in
    omega (arith, c.wide_number.ensures.0, sum_fits a.counts.now a.w.now c.requires l.place c.loop-place-test.true)

pub overflow_cast-next : goal.overflow_cast-next
overflow_cast-next c =
    let l = c.loop-place in
    let a = c.args in
    omega (arith, c.wide_number.ensures.0, sum_fits a.counts.now a.w.now c.requires l.place c.loop-place-test.true)

pub loop-place-preserved : goal.loop-place-preserved
loop-place-preserved c =
    let l = c.loop-place in
    let a = c.args in
    (simp length-set l.invariant.0, sums_next a.counts.now a.w.now l.next l.place _ c.loop-place-test.true (omega (arith, c.wide_number.ensures.0)) l.invariant.1)

pub returns : goal.returns
returns c =
    let l = c.loop-place in
    let a = c.args in
    sums_done a.counts.now a.w.now l.next l.place c.loop-place-test.false l.invariant.1
