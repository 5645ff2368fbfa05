-- `value_automaton::scanner::stay` meets its contract. Assumes nothing.
use borrow.Author.Rules.{rules}
use mathlib.Core.Path.{refl, subst, ◌∙◌}
use native.Mathlib.Omega.{arith}
use lib.ListN.{get_or}
use Rattle.value_automaton.specs.States.{Next}
use Rattle.value_automaton.proofs.StepLaws.{fault_step}
use Rattle.value_automaton.proofs.scanner.stay.Goals as goal

pub loop-i-init : goal.loop-i-init
loop-i-init c = (omega arith, search rules, refl)

pub returns-then-step-q : goal.returns-then-step-q
returns-then-step-q c =
    let i = c.loop-i.invariant in
    record { lower_bound = (i.0, i.1); s_value = i.2 }

pub loop-i-preserved : goal.loop-i-preserved
loop-i-preserved c =
    let a = c.args in
    let i = c.loop-i.i in
    let x : Next a.q (get_or a.s.now i 0) a.q = subst (Next a.q (get_or a.s.now i 0)) c.if-step-q.false c.step.ensures in
    (omega arith, omega arith, c.loop-i.invariant.2 ∙ fault_step a.s.now a.q i a.q (omega arith) x (λ e. omega arith))

pub returns : goal.returns
returns c =
    let i = c.loop-i.invariant in
    record { lower_bound = (i.0, i.1); s_value = i.2 }
