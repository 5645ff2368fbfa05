-- `reader_walk::keeping::move_down` meets its contract. Assumes nothing.
use mathlib.Core.List.{◌++◌}
use Prim.Native.Nat.{◌+◌, ◌-◌, ◌≤◌}
use lib.ListN.{take, drop}
use Rattle.octets.proofs.Writes.{Written}
use Rattle.reader_walk.proofs.keeping.move_down.Given as goal

abbrev pub invariant-loop-i : goal.invariant-loop-i
invariant-loop-i l = (l.i ≤ l.n) × Written (take l.to l.initial.scratch ++ take l.n (drop l.from l.initial.scratch)) (take (l.n - l.i) (drop (l.from + l.i) l.initial.scratch)) l.initial.scratch l.scratch (l.to + l.i)
