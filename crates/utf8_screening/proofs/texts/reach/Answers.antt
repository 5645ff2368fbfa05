-- `utf8_screening::texts::reach` meets its contract. Assumes nothing.
use mathlib.Core.Path.{sym}
use native.Mathlib.Nat.{zero-add}
use native.Mathlib.Omega.{arith}
use Rattle.utf8_screening.proofs.PlainLaws.{reach_step}
use Rattle.utf8_screening.proofs.texts.reach.Goals as goal

pub loop-i-init : goal.loop-i-init
loop-i-init c = record { goes = λ lf. sym (zero-add _); inside = omega arith }

pub returns-then-n-eq0 : goal.returns-then-n-eq0
returns-then-n-eq0 c = c.loop-i.invariant

pub overflow_add-i : goal.overflow_add-i
overflow_add-i c =
    let s = c.args.s.now in
    omega (arith, (reach_step s c.loop-i.i c.easy_at-n.result c.loop-i-test.true c.loop-i.invariant c.easy_at-n.ensures c.if-n-eq0.false).inside)

pub loop-i-smaller : goal.loop-i-smaller
loop-i-smaller c = omega arith

pub loop-i-preserved : goal.loop-i-preserved
loop-i-preserved c = reach_step c.args.s.now c.loop-i.i c.easy_at-n.result c.loop-i-test.true c.loop-i.invariant c.easy_at-n.ensures c.if-n-eq0.false

pub returns : goal.returns
returns c = c.loop-i.invariant
