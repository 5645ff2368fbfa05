-- `value_automaton::scanner::scan_by` meets its contract. Assumes nothing.
use mathlib.Core.Path.{◌≡◌}
use Prim.Native.Nat.{◌≤◌, ◌<◌, ◌-◌}
use lib.ListN.{length, drop}
use Rattle.value_kinds.specs.Shapes.{fault_from}
use Rattle.value_automaton.specs.States.{state_count, state_shape}
use Rattle.value_automaton.proofs.scanner.scan_by.Given as goal

abbrev pub invariant-loop-i : goal.invariant-loop-i
invariant-loop-i l = (l.i ≤ length l.s) × (l.q < state_count) × (fault_from (state_shape l.first) 0 l.s ≡ fault_from (state_shape l.q) l.i (drop l.i l.s))

abbrev pub decreases-loop-i : goal.decreases-loop-i
decreases-loop-i l = length l.s - l.i
