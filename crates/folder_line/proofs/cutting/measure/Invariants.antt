-- `folder_line::cutting::measure` meets its contract. Assumes nothing.
use mathlib.Core.Path.{◌≡◌}
use Prim.Native.Nat.{◌+◌, ◌-◌, ◌*◌, ◌≤◌}
use lib.ListN.{length, drop}
use Rattle.folder_line.specs.Pieces.{Clean}
use Rattle.folder_line.proofs.Turns.{folded_from}
use Rattle.folder_line.proofs.cutting.measure.Given as goal

abbrev pub invariant-loop-room : goal.invariant-loop-room
invariant-loop-room l = (l.a ≤ length l.s) × Clean (drop l.a l.s) × (74 ≤ l.room) × (l.room ≤ 75) × (l.n ≤ 3 * l.a) × (length (folded_from l.s 75) ≡ l.a + l.n + length (folded_from (drop l.a l.s) l.room))

abbrev pub decreases-loop-room : goal.decreases-loop-room
decreases-loop-room l = length l.s - l.a
