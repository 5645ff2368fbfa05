-- `value_automaton::scanner::scan_by` meets its contract. Assumes nothing.
use borrow.Author.Rules.{rules}
use mathlib.Core.Path.{◌≡◌, sym, ap, ◌∙◌}
use Prim.Native.Nat.{ℕ, ◌+◌}
use native.Mathlib.Omega.{arith}
use lib.ListN.{drop}
use Rattle.value_kinds.specs.Shapes.{fault_from}
use Rattle.value_automaton.specs.States.{state_shape}
use Rattle.value_automaton.proofs.StepLaws.{uri_tail_lem, fault_stop, fault_step, fault_short, fault_none}
use Rattle.value_automaton.proofs.scanner.scan_by.Goals as goal

pub returns-then-n-eq-DEAD : goal.returns-then-n-eq-DEAD
returns-then-n-eq-DEAD c = sym (c.loop-i.invariant.2 ∙ fault_stop c.args.s.now c.loop-i.q c.loop-i.i c.step-n.result c.loop-i-test.true c.step-n.ensures c.if-n-eq-DEAD.true)

pub stay-i-requires : goal.stay-i-requires
stay-i-requires c = record { whole = search rules; q_nonzero = (omega (arith, c.if-n-q.true, c.if-n-eq-DEAD.false), search rules); from_in_bounds = omega arith }

pub loop-i-smaller-then-n-q : goal.loop-i-smaller-then-n-q
loop-i-smaller-then-n-q c = omega (arith, c.stay-i.ensures.lower_bound.0)

pub loop-i-preserved-then-n-q : goal.loop-i-preserved-then-n-q
loop-i-preserved-then-n-q c =
    let onward : (c.step-n.result ≡ 0 → ⊥)
    → fault_from (state_shape c.args.first) 0 c.args.s.now
    ≡ fault_from (state_shape c.step-n.result) (c.loop-i.i + 1) (drop (c.loop-i.i + 1) c.args.s.now) = λ e. c.loop-i.invariant.2 ∙ fault_step c.args.s.now c.loop-i.q c.loop-i.i c.step-n.result c.loop-i-test.true c.step-n.ensures e in
    let s = c.args.s.now in
    let same = ap (λ (n : ℕ). fault_from (state_shape n) (c.loop-i.i + 1) (drop (c.loop-i.i + 1) s)) c.if-n-q.true in
    (c.stay-i.ensures.lower_bound.1, c.loop-i.invariant.1, onward c.if-n-eq-DEAD.false ∙ same ∙ c.stay-i.ensures.s_value)

pub returns-then-is_settled : goal.returns-then-is_settled
returns-then-is_settled c =
    let onward : (c.step-n.result ≡ 0 → ⊥)
    → fault_from (state_shape c.args.first) 0 c.args.s.now
    ≡ fault_from (state_shape c.step-n.result) (c.loop-i.i + 1) (drop (c.loop-i.i + 1) c.args.s.now) = λ e. c.loop-i.invariant.2 ∙ fault_step c.args.s.now c.loop-i.q c.loop-i.i c.step-n.result c.loop-i-test.true c.step-n.ensures e in
    let s = c.args.s.now in
    let h = c.is_settled.ensures c.if-is_settled.true in
    sym (onward c.if-n-eq-DEAD.false ∙ uri_tail_lem (drop (c.loop-i.i + 1) s) (c.loop-i.i + 1) c.step-n.result h.0 h.1)

pub loop-i-preserved : goal.loop-i-preserved
loop-i-preserved c =
    let onward : (c.step-n.result ≡ 0 → ⊥)
    → fault_from (state_shape c.args.first) 0 c.args.s.now
    ≡ fault_from (state_shape c.step-n.result) (c.loop-i.i + 1) (drop (c.loop-i.i + 1) c.args.s.now) = λ e. c.loop-i.invariant.2 ∙ fault_step c.args.s.now c.loop-i.q c.loop-i.i c.step-n.result c.loop-i-test.true c.step-n.ensures e in
    (omega arith, c.step-n.ensures.inside, onward c.if-n-eq-DEAD.false)

pub returns-then-q-lt-FIRST_NULLABLE : goal.returns-then-q-lt-FIRST_NULLABLE
returns-then-q-lt-FIRST_NULLABLE c = sym (c.loop-i.invariant.2 ∙ fault_short c.args.s.now c.loop-i.q c.loop-i.i c.loop-i-test.false c.loop-i.invariant.1 c.if-q-lt-FIRST_NULLABLE.true)

pub returns : goal.returns
returns c = sym (c.loop-i.invariant.2 ∙ fault_none c.args.s.now c.loop-i.q c.loop-i.i c.loop-i-test.false c.loop-i.invariant.1 c.if-q-lt-FIRST_NULLABLE.false)
