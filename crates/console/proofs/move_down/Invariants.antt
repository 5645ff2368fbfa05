-- `console::move_down` is safe and ends; what is moved goes to no later place. Assumes nothing.
use Prim.Native.Nat.{◌-◌, ◌≤◌}
use Rattle.console.proofs.move_down.Given as goal

abbrev pub invariant-loop-i : goal.invariant-loop-i
invariant-loop-i l = l.n ≤ l.i

abbrev pub decreases-loop-i : goal.decreases-loop-i
decreases-loop-i l = l.to - l.i
