-- `cabbook_morning::run_rounds` is safe and ends. Assumes nothing.
use mathlib.Core.Path.{◌≡◌}
use lib.ListN.{length}
use Rattle.cabbook_morning.proofs.run_rounds.Given as goal

abbrev pub invariant-loop : goal.invariant-loop
invariant-loop l = length l.pool ≡ length l.initial.pool
