-- `program_numbers::hex::decode` meets its contract. Assumes nothing.
use mathlib.Core.Path.{◌≡◌}
use mathlib.Core.List.{◌++◌}
use Prim.Native.Nat.{◌/◌, ◌≤◌}
use lib.ListN.{length, take, drop}
use Rattle.program_numbers.specs.Hex.{decoded}
use Rattle.program_numbers.proofs.hex.decode.Given as goal

abbrev pub invariant-loop-i : goal.invariant-loop-i
invariant-loop-i l = (l.i ≤ length l.word / 2) × (length l.out ≡ length l.initial.out) × (l.out ≡ take l.i (decoded l.word) ++ drop l.i l.initial.out)
