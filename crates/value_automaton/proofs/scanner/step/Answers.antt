-- `value_automaton::scanner::step` meets its contract. Assumes nothing.
use Prim.Native.Nat.{◌<◌}
use native.Mathlib.Omega.{arith}
use Rattle.value_automaton.specs.States.{stride}
use Rattle.value_automaton.proofs.StepLaws.{over, next}
use Rattle.value_automaton.proofs.scanner.step.Goals as goal

pub bounds-steps-wide : goal.bounds-steps-wide
bounds-steps-wide c = omega (arith, c.requires.whole.size)

pub overflow_add-result : goal.overflow_add-result
overflow_add-result c =
    let low : c.wide-3.result < stride = let a = c.args in
    let byte : a.x < 256 = omega arith in
    rw (c.wide-3.ensures, c.wide.ensures) (c.requires.whole.sort_low a.x byte) in
    omega (arith, low)

pub overflow_add-result-2 : goal.overflow_add-result-2
overflow_add-result-2 c =
    let low : c.wide-3.result < stride = let a = c.args in
    let byte : a.x < 256 = omega arith in
    rw (c.wide-3.ensures, c.wide.ensures) (c.requires.whole.sort_low a.x byte) in
    omega (arith, low)

pub bounds-steps-wide-2 : goal.bounds-steps-wide-2
bounds-steps-wide-2 c =
    let low : c.wide-3.result < stride = let a = c.args in
    let byte : a.x < 256 = omega arith in
    rw (c.wide-3.ensures, c.wide.ensures) (c.requires.whole.sort_low a.x byte) in
    omega (arith, low, c.requires.whole.size)

pub overflow_sub-result : goal.overflow_sub-result
overflow_sub-result c =
    let byte : c.args.x < 256 = omega arith in
    rw (c.wide-2.ensures, c.wide-3.ensures, c.wide.ensures)
    (over c.args.steps.now c.args.q c.args.x c.requires.whole c.requires.q_lt_state_count byte)

pub returns : goal.returns
returns c =
    let byte : c.args.x < 256 = omega arith in
    rw (c.wide-2.ensures, c.wide-3.ensures, c.wide.ensures)
    (next c.args.steps.now c.args.q c.args.x c.requires.whole c.requires.q_lt_state_count byte)
