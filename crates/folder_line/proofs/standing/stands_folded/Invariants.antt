-- `folder_line::standing::stands_folded` meets its contract. Assumes nothing.
use mathlib.Core.Path.{◌≡◌}
use mathlib.Core.List.{[], ◌∷◌, ◌++◌}
use Prim.Native.Nat.{◌-◌, ◌≤◌}
use lib.ListN.{length, drop}
use Rattle.line_folds.specs.Folds.{unfolded}
use Rattle.folder_line.specs.Pieces.{folded, Clean}
use Rattle.folder_line.proofs.Turns.{folded_from}
use Rattle.folder_line.proofs.standing.stands_folded.Given as goal

abbrev pub invariant-loop-i : goal.invariant-loop-i
invariant-loop-i l = (l.i ≤ length l.s) × (4 ≤ l.room) × Clean (unfolded (drop l.i l.s))
    × (folded_from (unfolded (drop l.i l.s)) l.room ≡ drop l.i l.s ++ (13 ∷ 10 ∷ []) → folded (unfolded l.s) ≡ l.s ++ (13 ∷ 10 ∷ []))

abbrev pub decreases-loop-i : goal.decreases-loop-i
decreases-loop-i l = length l.s - l.i
