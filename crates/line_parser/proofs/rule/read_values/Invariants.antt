-- `line_parser::rule::read_values` meets its contract. Assumes nothing.
use Rattle.line_parser.specs.Places.{place}
use Rattle.line_parser.specs.Rule.{values, more_values}
use lib.ListN.{length, drop}
use Prim.Native.Nat.{ℕ, ◌-◌, ◌<◌}
use mathlib.Core.Path.{◌≡◌}
use Rattle.line_parser.proofs.rule.read_values.Given as goal

abbrev pub invariant-loop-at : goal.invariant-loop-at
invariant-loop-at l = (n : ℕ) × (length l.s - l.at < n) × (place l.from (values (drop l.from l.s)) ≡ place l.at (more_values n (drop l.at l.s)))

abbrev pub decreases-loop-at : goal.decreases-loop-at
decreases-loop-at l = length l.s - l.at
