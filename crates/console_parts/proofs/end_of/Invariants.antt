-- `console_parts::end_of` meets its contract. Assumes nothing.
use Prim.Native.Nat.{◌+◌, ◌≤◌}
use mathlib.Core.Path.{◌≡◌}
use lib.ListN.{length}
use Rattle.console_parts.specs.Parts.{end_of}
use Rattle.console_parts.proofs.end_of.Given as goal

abbrev pub invariant-loop : goal.invariant-loop
invariant-loop l = (l.end ≡ end_of l.s l.counter) × (l.end ≤ length l.s + 1)
