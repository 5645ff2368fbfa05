-- `merge_pids::read_number` meets its contract. Assumes nothing.
use mathlib.Core.Path.{◌≡◌}
use Prim.Native.Nat.{◌≤◌}
use lib.ListN.{drop}
use Rattle.merge_pids.specs.Numbers.{digits}
use Rattle.merge_pids.proofs.read_number.Given as goal

abbrev pub invariant-loop-b : goal.invariant-loop-b
invariant-loop-b l = (l.n ≤ 65536) × (digits 0 l.s ≡ digits l.n (drop l.b-index l.s))
