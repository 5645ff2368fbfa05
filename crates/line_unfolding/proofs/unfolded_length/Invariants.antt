-- `line_unfolding::unfolded_length` meets its contract. Assumes nothing.
use mathlib.Core.Path.{◌≡◌}
use Prim.Native.Nat.{◌≤◌, ◌+◌}
use lib.ListN.{length, drop}
use Rattle.line_unfolding.proofs.CountLaws.{fold_count}
use Rattle.line_unfolding.proofs.unfolded_length.Given as goal

abbrev pub invariant-loop-i : goal.invariant-loop-i
invariant-loop-i l = (l.last + 2 ≡ length l.s) × (l.i ≤ l.last) × (l.folds ≤ l.i) × (fold_count l.s ≡ l.folds + fold_count (drop l.i l.s))
