-- `program_output::put_spaces` meets its contract. Assumes nothing.
use mathlib.Core.Path.{◌≡◌}
use Prim.Native.Nat.{◌-◌}
use lib.ListN.{length, replicate}
use Rattle.program_output.specs.Pages.{page, added}
use Rattle.program_output.proofs.put_spaces.Given as goal

abbrev pub invariant-loop : goal.invariant-loop
invariant-loop l = (length l.room ≡ length l.initial.room) × (added (replicate (l.n - l.counter) 32) (page l.next l.room) ≡ added (replicate l.n 32) (page l.at l.initial.room))
