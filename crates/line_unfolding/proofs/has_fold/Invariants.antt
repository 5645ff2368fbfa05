-- `line_unfolding::has_fold` meets its contract. Assumes nothing.
use mathlib.Core.Path.{◌≡◌}
use mathlib.Core.Bool.{false}
use Prim.Native.Nat.{ℕ, ◌≤◌, ◌<◌, ◌+◌}
use lib.ListN.{drop}
use Rattle.line_folds.specs.Folds.{fold_at}
use Rattle.line_unfolding.proofs.has_fold.Given as goal

abbrev pub invariant-loop-k : goal.invariant-loop-k
invariant-loop-k l = (l.k ≤ 16) × (l.hit ≡ 0 → (m : ℕ) → m < l.k → fold_at (drop (l.i + m) l.s) ≡ false)
