-- `folder_line::cutting::cut` meets its contract. Assumes nothing.
use mathlib.Core.Path.{◌≡◌}
use mathlib.Core.Bool.{true}
use Prim.Native.Nat.{ℕ, ◌+◌, ◌≤◌, ◌<◌}
use lib.ListN.{get_or}
use Rattle.utf8.specs.Characters.{tail}
use Rattle.folder_line.proofs.cutting.cut.Given as goal

abbrev pub invariant-loop-e : goal.invariant-loop-e
invariant-loop-e l = (l.from ≤ l.e) × (l.e ≤ l.from + l.room) × ((i : ℕ) → l.e < i → i ≤ l.from + l.room → tail (get_or l.s i 0) ≡ true)

abbrev pub decreases-loop-e : goal.decreases-loop-e
decreases-loop-e l = l.e
