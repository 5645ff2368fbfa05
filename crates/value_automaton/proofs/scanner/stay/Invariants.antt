-- `value_automaton::scanner::stay` meets its contract. Assumes nothing.
use mathlib.Core.Path.{◌≡◌}
use Prim.Native.Nat.{◌≤◌, ◌-◌}
use lib.ListN.{length, drop}
use Rattle.value_kinds.specs.Shapes.{fault_from}
use Rattle.value_automaton.specs.States.{state_shape}
use Rattle.value_automaton.proofs.scanner.stay.Given as goal

abbrev pub invariant-loop-i : goal.invariant-loop-i
invariant-loop-i l = (l.from ≤ l.i) × (l.i ≤ length l.s) × (fault_from (state_shape l.q) l.from (drop l.from l.s) ≡ fault_from (state_shape l.q) l.i (drop l.i l.s))

abbrev pub decreases-loop-i : goal.decreases-loop-i
decreases-loop-i l = length l.s - l.i
