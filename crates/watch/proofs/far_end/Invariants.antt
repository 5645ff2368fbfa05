-- `watch::far_end` meets its contract. Assumes nothing.
use Prim.Native.Nat.{ℕ, ◌≤◌}
use lib.ListN.{take}
use Rattle.card_state.specs.Kept.{Inside}
use Rattle.watch.proofs.far_end.Given as goal

abbrev pub invariant-loop-place : goal.invariant-loop-place
invariant-loop-place l = ((n : ℕ) → l.far ≤ n → Inside n (take l.place-index l.place-items)) × ((n : ℕ) → Inside n l.place-items → l.far ≤ n)
