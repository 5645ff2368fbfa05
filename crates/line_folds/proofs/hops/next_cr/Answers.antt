-- `line_folds::hops::next_cr` meets its contract. Assumes nothing.
use mathlib.Core.Path.{sym, ◌∙◌}
use native.Mathlib.Omega.{arith}
use Rattle.line_folds.specs.Folds.{not_cr}
use Rattle.octets.proofs.Runs.{run_stop, run_step, run_end}
use Rattle.line_folds.proofs.HopLaws.{no_cr, a_cr}
use Rattle.line_folds.proofs.hops.next_cr.Goals as goal

pub loop-i-init : goal.loop-i-init
loop-i-init c = c.skip_to_cr-i.ensures

pub returns-then-s-i-eq13 : goal.returns-then-s-i-eq13
returns-then-s-i-eq13 c =
    let s = c.args.s.now in
    (c.loop-i.invariant.0, sym (c.loop-i.invariant.1 ∙ run_stop not_cr s c.loop-i.i c.loop-i-test.true (a_cr _ c.if-s-i-eq13.true)))

pub loop-i-preserved : goal.loop-i-preserved
loop-i-preserved c =
    let s = c.args.s.now in
    (omega arith, c.loop-i.invariant.1 ∙ run_step not_cr s c.loop-i.i c.loop-i-test.true (no_cr _ c.if-s-i-eq13.false))

pub returns : goal.returns
returns c =
    let e = c.loop-i.invariant.1 ∙ run_end not_cr c.args.s.now c.loop-i.i c.loop-i-test.false in
    (omega arith, omega arith)
