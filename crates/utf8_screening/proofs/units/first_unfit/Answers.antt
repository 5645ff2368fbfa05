-- `utf8_screening::units::first_unfit` meets its contract. Assumes nothing.
use borrow.Author.Rules.{rules}
use mathlib.Core.Path.{sym, ◌∙◌}
use native.Mathlib.Nat.{zero-add}
use native.Mathlib.Omega.{arith}
use Rattle.utf8.specs.Characters.{allowed}
use Rattle.utf8.proofs.Chars.{bad_stop, bad_end}
use Rattle.utf8_screening.proofs.units.first_unfit.Goals as goal

pub loop-i-init : goal.loop-i-init
loop-i-init c = (search rules, sym (zero-add _))

pub returns-then-n-eq0 : goal.returns-then-n-eq0
returns-then-n-eq0 c =
    let a = c.args in
    sym (c.loop-i.invariant.1 ∙ bad_stop (allowed a.lf) a.s.now c.loop-i.i (c.stride-n.ensures.stops c.if-n-eq0.true))

pub overflow_add-i : goal.overflow_add-i
overflow_add-i c =
    let a = c.args in
    omega (arith, c.stride-n.ensures.inside)

pub loop-i-smaller : goal.loop-i-smaller
loop-i-smaller c = omega arith

pub loop-i-preserved : goal.loop-i-preserved
loop-i-preserved c =
    let a = c.args in
    (c.stride-n.ensures.inside, c.loop-i.invariant.1 ∙ c.stride-n.ensures.goes)

pub returns : goal.returns
returns c =
    let a = c.args in
    sym (c.loop-i.invariant.1 ∙ bad_end (allowed a.lf) a.s.now c.loop-i.i c.loop-i-test.false)
