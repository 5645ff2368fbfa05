-- `line_folds::hops::has_cr` meets its contract. Assumes nothing.
use mathlib.Core.Path.{◌≡◌}
use Prim.Native.Nat.{ℕ, ◌≤◌, ◌<◌, ◌+◌}
use lib.ListN.{get_or}
use Rattle.line_folds.proofs.hops.has_cr.Given as goal

abbrev pub invariant-loop-k : goal.invariant-loop-k
invariant-loop-k l = (l.k ≤ 16) × (l.hit ≡ 0 → (m : ℕ) → m < l.k → get_or l.s (l.i + m) 0 ≡ 13 → ⊥)
