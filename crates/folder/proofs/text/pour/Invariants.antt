-- `crate::text::pour` meets its contract. Assumes nothing.
use mathlib.Core.List.{map}
use Prim.Native.Nat.{◌-◌, ◌<◌, ◌≤◌}
use lib.ListN.{length, drop}
use Rattle.octets.proofs.Writes.{Written}
use Rattle.line_folds.specs.Logical.{logical_lines}
use Rattle.folder_line.specs.Pieces.{folded_lines, Clean, All}
use Rattle.folder_raising.specs.Walk.{written}
use Rattle.folder.proofs.RunLaws.{rest_from}
use Rattle.folder.proofs.text.pour.Given as goal

abbrev pub invariant-loop-at : goal.invariant-loop-at
invariant-loop-at l = (l.from ≤ l.at) × (l.from < l.at → l.at ≤ length l.s) × All Clean (logical_lines (drop l.at l.s))
    × Written (folded_lines (map (written l.style) (logical_lines l.s))) (rest_from (written l.style) l.s l.from l.at) l.initial.d l.d l.w

abbrev pub decreases-loop-at : goal.decreases-loop-at
decreases-loop-at l = length l.s - l.at
