-- `watch_lines::judge_lines` meets its contract. Assumes nothing.
use mathlib.Core.Path.{◌≡◌}
use mathlib.Core.Bool.{false}
use Prim.Native.Nat.{◌+◌, ◌-◌, ◌≤◌}
use lib.ListN.{length, drop}
use Rattle.line_folds.specs.Folds.{unfolded}
use Rattle.watch_arrivals.specs.Arrivals.{lone_from}
use Rattle.watch_lines.specs.Taking.{Within}
use Rattle.watch_lines.proofs.TakingLaws.{Hand, hand_line}
use Rattle.watch_lines.proofs.judge_lines.Given as goal

abbrev pub invariant-loop-after : goal.invariant-loop-after
invariant-loop-after l = (length l.buffer ≡ 16384) × ((l.from ≤ l.next) × (l.at ≤ l.end) × (l.end ≤ length l.chunk) × (l.next ≤ length l.chunk)) × (l.n ≡ length (hand_line l.first l.line l.chunk l.at l.end))
    × (l.folded ≡ false → unfolded (hand_line l.first l.line l.chunk l.at l.end) ≡ hand_line l.first l.line l.chunk l.at l.end)
    × (lone_from 0 (drop l.next l.chunk) ≡ length (drop l.next l.chunk) + 1) × Within l.card l.place
    × Hand l.initial.card l.line (drop l.from l.chunk) l.initial.buffer l.start l.card (hand_line l.first l.line l.chunk l.at l.end) (drop l.next l.chunk) l.buffer l.place

abbrev pub decreases-loop-after : goal.decreases-loop-after
decreases-loop-after l = length l.chunk - l.next
