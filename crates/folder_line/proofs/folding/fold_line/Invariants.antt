-- `folder_line::folding::fold_line` meets its contract. Assumes nothing.
use Prim.Native.Nat.{◌-◌, ◌≤◌}
use lib.ListN.{length, drop}
use Rattle.octets.proofs.Writes.{Written}
use Rattle.folder_line.specs.Pieces.{folded, Clean}
use Rattle.folder_line.proofs.Turns.{folded_from}
use Rattle.folder_line.proofs.folding.fold_line.Given as goal

abbrev pub invariant-loop-room : goal.invariant-loop-room
invariant-loop-room l = (l.a ≤ length l.s) × Clean (drop l.a l.s) × (74 ≤ l.room) × (l.room ≤ 75) × Written (folded l.s) (folded_from (drop l.a l.s) l.room) l.initial.d l.d l.w

abbrev pub decreases-loop-room : goal.decreases-loop-room
decreases-loop-room l = length l.s - l.a
