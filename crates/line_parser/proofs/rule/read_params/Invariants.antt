-- `line_parser::rule::read_params` meets its contract. Assumes nothing.
use Rattle.line_parser.specs.Places.{listed}
use Rattle.line_parser.specs.Rule.{params}
use lib.ListN.{length, drop}
use Prim.Native.Nat.{ℕ, suc, ◌-◌, ◌<◌, ◌≤◌}
use mathlib.Core.Path.{◌≡◌}
use Rattle.line_parser.proofs.rule.read_params.Given as goal

abbrev pub invariant-loop-at : goal.invariant-loop-at
invariant-loop-at l = (n : ℕ) × (length l.s - l.at < n) × (l.count ≤ l.at)
    × (listed 0 l.from (params (suc (length (drop l.from l.s))) (drop l.from l.s)) ≡ listed l.count l.at (params n (drop l.at l.s)))

abbrev pub decreases-loop-at : goal.decreases-loop-at
decreases-loop-at l = length l.s - l.at
