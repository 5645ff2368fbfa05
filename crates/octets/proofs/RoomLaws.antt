-- The outcomes of writing to lent room, by what was measured: n is the count of the octets. Assumes nothing.
use mathlib.Core.Path.{◌≡◌}
use mathlib.Core.List.{List, ◌++◌}
use Prim.Native.Nat.{ℕ, ◌<◌, ◌≤◌}
use native.Mathlib.Omega.{arith}
use lib.ListN.{length, drop}
use borrow.Author.Tests.{lt-ltb, le-ltb}
use Rattle.octets.specs.Room.{filled, refuse, fill, fill_bounded}
use Rattle.octets.specs.Room.{Wrote}

module _ (xs room : List ℕ) (n : ℕ) (e : n ≡ length xs) where
  pub fill_short : length room < n → refuse 15 n room ≡ fill xs room
  unfolding fill
  fill_short h = rw e (simp (lt-ltb (length room) (length xs) (omega arith)))

  pub fill_fits : n ≤ length room → (after : List ℕ) → after ≡ xs ++ drop n room → filled (Wrote n) after ≡ fill xs room
  unfolding fill
  fill_fits h after q =
      simp (le-ltb (length room) (length xs) (omega arith), q, e)

  pub over_bound : 16384 < n → refuse 16 16384 room ≡ fill_bounded xs room
  unfolding fill_bounded
  over_bound h = simp (lt-ltb 16384 (length xs) (omega arith))

  pub within_bound : n ≤ 16384 → fill xs room ≡ fill_bounded xs room
  unfolding fill_bounded
  within_bound h = simp (le-ltb 16384 (length xs) (omega arith))
