-- `line_breaks::find_lone` meets its contract. Assumes nothing.
use borrow.Author.Rules.{rules}
use mathlib.Core.Path.{sym, ◌∙◌}
use native.Mathlib.Nat.{zero-add}
use native.Mathlib.Omega.{arith}
use Rattle.octets.proofs.Scans.{scan_stop, scan_step, scan_end}
use Rattle.line_breaks.specs.Lone.{lone_step, first_lone}
use Rattle.line_breaks.proofs.EndLaws.{step_inside}
use Rattle.line_breaks.proofs.find_lone.Goals as goal

pub loop-i-init : goal.loop-i-init
loop-i-init c = (search rules, sym (zero-add _))

pub returns-then-n-eq0 : goal.returns-then-n-eq0
unfolding first_lone
returns-then-n-eq0 c = sym (c.loop-i.invariant.1 ∙ scan_stop lone_step c.args.s.now c.loop-i.i (sym c.lone_step-n.ensures ∙ c.if-n-eq0.true))

pub overflow_add-i : goal.overflow_add-i
overflow_add-i c = omega (arith, step_inside c.args.s.now c.loop-i.i c.lone_step-n.result c.lone_step-n.ensures c.loop-i-test.true)

pub loop-i-preserved : goal.loop-i-preserved
loop-i-preserved c =
    let inside = step_inside c.args.s.now c.loop-i.i c.lone_step-n.result c.lone_step-n.ensures c.loop-i-test.true in
    (inside, c.loop-i.invariant.1 ∙ scan_step lone_step c.args.s.now c.loop-i.i c.lone_step-n.result (sym c.lone_step-n.ensures) (omega arith) inside)

pub returns : goal.returns
unfolding first_lone
returns c = sym (c.loop-i.invariant.1 ∙ scan_end lone_step c.args.s.now c.loop-i.i c.loop-i-test.false)
