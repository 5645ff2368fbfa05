-- `reader_walk::walk_in` meets its contract. Assumes nothing.
use mathlib.Core.Path.{◌≡◌}
use Prim.Native.Nat.{◌-◌, ◌≤◌}
use lib.ListN.{length, drop}
use Rattle.line_folds.specs.Logical.{raw_lines}
use Rattle.card_state.specs.State.{fresh_card}
use Rattle.card_state.specs.Kept.{Lies, card_of}
use Rattle.reader_walk.specs.Walk.{judge_lines}
use Rattle.reader_walk.proofs.walk_in.Given as goal

abbrev pub invariant-loop-at : goal.invariant-loop-at
invariant-loop-at l = (length l.scratch ≡ length l.initial.scratch) × (l.c.cards ≤ l.c.lines) × (l.c.lines ≤ l.at) × Lies l.c × (l.c.used ≤ l.at)
    × (judge_lines l.edition (raw_lines l.s) 0 fresh_card ≡ judge_lines l.edition (raw_lines (drop l.at l.s)) l.at (card_of l.c l.scratch))

abbrev pub decreases-loop-at : goal.decreases-loop-at
decreases-loop-at l = length l.s - l.at
