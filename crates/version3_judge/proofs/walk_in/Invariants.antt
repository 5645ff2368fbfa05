-- `version3_judge::walk_in` meets its contract. Assumes nothing.
use mathlib.Core.Path.{◌≡◌}
use Prim.Native.Nat.{◌-◌}
use lib.ListN.{length, drop}
use Rattle.line_folds.specs.Logical.{raw_lines}
use Rattle.version3_judge.specs.Judge.{fresh_set, judge_lines}
use Rattle.version3_judge.proofs.walk_in.Given as goal

abbrev pub invariant-loop-at : goal.invariant-loop-at
invariant-loop-at l = (length l.scratch ≡ length l.initial.scratch) × (judge_lines l.way (raw_lines l.s) 0 fresh_set ≡ judge_lines l.way (raw_lines (drop l.at l.s)) l.at l.c)

abbrev pub decreases-loop-at : goal.decreases-loop-at
decreases-loop-at l = length l.s - l.at
