-- `line_parameters::param_first` meets its contract. Assumes nothing.
use Rattle.line_parameters.specs.First.{find_first}
use lib.ListN.{length, drop}
use Prim.Native.Nat.{ℕ, suc, ◌-◌, ◌<◌}
use mathlib.Core.Path.{◌≡◌}
use Rattle.line_parameters.proofs.param_first.Given as goal

abbrev pub invariant-loop-at : goal.invariant-loop-at
invariant-loop-at l = (n : ℕ) × (length l.s - l.at < n)
    × (find_first l.name l.from (suc (length (drop l.from l.s))) (drop l.from l.s) ≡ find_first l.name l.at n (drop l.at l.s))

abbrev pub decreases-loop-at : goal.decreases-loop-at
decreases-loop-at l = length l.s - l.at
