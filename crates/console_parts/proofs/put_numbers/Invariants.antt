-- `console_parts::put_numbers` meets its contract. Assumes nothing.
use Prim.Native.Nat.{◌/◌}
use mathlib.Core.Path.{◌≡◌}
use mathlib.Core.List.{◌++◌}
use lib.ListN.{length, take, drop}
use Rattle.console_parts.specs.Parts.{numbers_from}
use Rattle.console_parts.proofs.put_numbers.Given as goal

abbrev pub invariant-loop-i : goal.invariant-loop-i
invariant-loop-i l = (length l.out ≡ length l.initial.out) × (l.out ≡ take l.i (numbers_from l.s 0 (length l.s / 4)) ++ drop l.i l.initial.out)
