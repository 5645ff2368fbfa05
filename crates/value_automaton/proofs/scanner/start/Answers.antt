-- `value_automaton::scanner::start` meets its contract. Assumes nothing.
use mathlib.Core.Path.{◌≡◌}
use Prim.Native.Nat.{ℕ, suc, ◌<◌, ◌≤◌}
use native.Mathlib.Omega.{arith}
use Rattle.value_kinds.specs.Kinds.{parts, up_to, spread, shape_in}
use Rattle.value_automaton.specs.States.{states, state_shape}
use Rattle.value_automaton.proofs.scanner.start.Goals as goal

up : (a k : ℕ) → a ≤ k → (k ≡ a → ⊥) → suc a ≤ k
up a k h f = omega arith

only : (k : ℕ) → 11 ≤ k → k < 12 → k ≡ 11
only k g h = omega arith

pub returns-in-0 : goal.returns-in-0
unfolding state_shape states shape_in parts up_to spread
returns-in-0 c = record { upper_bound = omega arith; result_value = rw c.in-0.is }

pub returns-in-1 : goal.returns-in-1
unfolding state_shape states shape_in parts up_to spread
returns-in-1 c = record { upper_bound = omega arith; result_value = rw c.in-1.is }

pub returns-in-2 : goal.returns-in-2
unfolding state_shape states shape_in parts up_to spread
returns-in-2 c = record { upper_bound = omega arith; result_value = rw c.in-2.is }

pub returns-in-3 : goal.returns-in-3
unfolding state_shape states shape_in parts up_to spread
returns-in-3 c = record { upper_bound = omega arith; result_value = rw c.in-3.is }

pub returns-in-4 : goal.returns-in-4
unfolding state_shape states shape_in parts up_to spread
returns-in-4 c = record { upper_bound = c.start_of_name.ensures.upper_bound; result_value = rw c.in-4.is c.start_of_name.ensures.result_value }

pub returns-in-5 : goal.returns-in-5
unfolding state_shape states shape_in parts up_to spread
returns-in-5 c = record { upper_bound = c.start_of_address.ensures.upper_bound; result_value = rw c.in-5.is c.start_of_address.ensures.result_value }

pub returns-in-6 : goal.returns-in-6
unfolding state_shape states shape_in parts up_to spread
returns-in-6 c = record { upper_bound = omega arith; result_value = rw c.in-6.is }

pub returns-in-7 : goal.returns-in-7
unfolding state_shape states shape_in parts up_to spread
returns-in-7 c = record { upper_bound = omega arith; result_value = rw c.in-7.is }

pub returns-in-8 : goal.returns-in-8
unfolding state_shape states shape_in parts up_to spread
returns-in-8 c = record { upper_bound = omega arith; result_value = rw c.in-8.is }

pub returns-in-9 : goal.returns-in-9
unfolding state_shape states shape_in parts up_to spread
returns-in-9 c = record { upper_bound = omega arith; result_value = rw c.in-9.is }

pub returns-in-10 : goal.returns-in-10
unfolding state_shape states shape_in parts up_to spread
returns-in-10 c = record { upper_bound = omega arith; result_value = rw c.in-10.is }

pub returns-in_default : goal.returns-in_default
unfolding state_shape states shape_in parts up_to spread
returns-in_default c =
    let o = c.in_default.in_default-own.rest in
    let k = c.args.kind in
    let last = only k (up 10 k (up 9 k (up 8 k (up 7 k (up 6 k (up 5 k (up 4 k (up 3 k (up 2 k (up 1 k (up 0 k (omega arith) o.0.0.0.0.0.0.0.0.0.0.1) o.0.0.0.0.0.0.0.0.0.1) o.0.0.0.0.0.0.0.0.1) o.0.0.0.0.0.0.0.1) o.0.0.0.0.0.0.1) o.0.0.0.0.0.1) o.0.0.0.0.1) o.0.0.0.1) o.0.0.1) o.0.1) o.1) c.requires in
    record { upper_bound = omega arith; result_value = rw last }
