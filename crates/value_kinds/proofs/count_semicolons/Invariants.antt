-- `value_kinds::count_semicolons` meets its contract. Assumes nothing.
use mathlib.Core.Path.{◌≡◌}
use Prim.Native.Nat.{◌≤◌, ◌+◌}
use lib.ListN.{length, drop}
use Rattle.value_kinds.specs.Octets.{semicolon, holds}
use Rattle.octets.specs.Counts.{count}
use Rattle.value_kinds.proofs.count_semicolons.Given as goal

abbrev pub invariant-loop-x : goal.invariant-loop-x
invariant-loop-x l = (l.x-index ≤ length l.s) × (l.n ≤ l.x-index) × (count (holds semicolon) l.s ≡ l.n + count (holds semicolon) (drop l.x-index l.s))
