-- `line_breaks::is_split` meets its contract. Assumes nothing.
use mathlib.Core.Path.{◌≡◌}
use mathlib.Core.Bool.{false}
use Prim.Native.Nat.{ℕ, ◌≤◌, ◌<◌, ◌+◌}
use Rattle.line_breaks.specs.Lone.{split_at}
use Rattle.line_breaks.proofs.is_split.Given as goal

abbrev pub invariant-loop-k : goal.invariant-loop-k
invariant-loop-k l = (l.k ≤ 16) × (l.bad ≡ 0 → (m : ℕ) → m < l.k → split_at l.s (l.i + m) ≡ false)
