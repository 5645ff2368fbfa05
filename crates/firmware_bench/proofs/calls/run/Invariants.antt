-- `firmware_bench::calls::run` meets its contract. Assumes nothing.
use mathlib.Core.Path.{◌≡◌}
use Prim.Native.Nat.{◌-◌}
use Rattle.desk.specs.Steps.{turned}
use Rattle.firmware_bench.specs.Calls.{run}
use Rattle.firmware_bench.proofs.calls.run.Given as goal

abbrev pub invariant-loop : goal.invariant-loop
invariant-loop l = run l.chunk l.kind l.last l.t (l.n - l.counter) (turned l.turn l.pool) ≡ run l.chunk l.kind l.last 1 l.n (turned l.initial.turn l.initial.pool)
