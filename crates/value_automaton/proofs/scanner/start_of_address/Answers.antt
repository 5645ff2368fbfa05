-- `value_automaton::scanner::start_of_address` meets its contract. Assumes nothing.
use native.Mathlib.Omega.{arith}
use Rattle.value_kinds.specs.Kinds.{parts, up_to, spread, shape_in}
use Rattle.value_automaton.specs.States.{states, state_shape}
use Rattle.value_automaton.proofs.scanner.start_of_address.Goals as goal

pub returns-in-First : goal.returns-in-First
unfolding state_shape states shape_in parts up_to spread
returns-in-First c = record { upper_bound = omega arith; result_value = rw c.in-First.is }

pub returns-in-Second : goal.returns-in-Second
unfolding state_shape states shape_in parts up_to spread
returns-in-Second c = record { upper_bound = omega arith; result_value = rw c.in-Second.is }
