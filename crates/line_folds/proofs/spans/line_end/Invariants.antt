-- `line_folds::spans::line_end` meets its contract. Assumes nothing.
use mathlib.Core.Path.{◌≡◌}
use Prim.Native.Nat.{◌≤◌, ◌+◌, ◌-◌}
use lib.ListN.{length, drop}
use Rattle.octets.specs.Scan.{scan}
use Rattle.line_folds.specs.Folds.{line_step}
use Rattle.line_folds.proofs.spans.line_end.Given as goal

abbrev pub invariant-loop-at : goal.invariant-loop-at
invariant-loop-at l = (l.at ≤ length l.s) × (l.from + scan line_step (drop l.from l.s) 0 ≡ l.at + scan line_step (drop l.at l.s) 0)

abbrev pub decreases-loop-at : goal.decreases-loop-at
decreases-loop-at l = length l.s - l.at
