-- When a number is none that a refusal has. Assumes nothing.
use Rattle.std.proofs.Common.{◌≡◌, ℕ, ◌≤◌, Bool, true, false}
use native.Mathlib.Omega.{arith}
use Rattle.numbers.specs.Listed.{or_else, within, is_listed}

neither : (x y : Bool) → x ≡ false → y ≡ false → or_else x y ≡ false
neither false y e f = f
neither true y e f = e

outside : (a b n : ℕ) → (a ≤ n → n ≤ b → ⊥) → within a b n ≡ false
outside a b n h = grind arith

-- the numbers between those of the refusals
pub unlisted :
    (n : ℕ) → (1 ≤ n → n ≤ 5 → ⊥) → (7 ≤ n → n ≤ 16 → ⊥) → (20 ≤ n → n ≤ 26 → ⊥) → (30 ≤ n → n ≤ 31 → ⊥) → (40 ≤ n → n ≤ 46 → ⊥)
    → (50 ≤ n → n ≤ 51 → ⊥) → (70 ≤ n → n ≤ 73 → ⊥) → (80 ≤ n → n ≤ 80 → ⊥) → (90 ≤ n → n ≤ 92 → ⊥) → is_listed n ≡ false
unfolding is_listed
unlisted n a b c d e f g h i =
    neither _ _ (outside 1 5 n a) (neither _ _ (outside 7 16 n b) (neither _ _ (outside 20 26 n c) (neither _ _ (outside 30 31 n d) (neither _ _ (outside 40 46 n e)
    (neither _ _ (outside 50 51 n f) (neither _ _ (outside 70 73 n g) (neither _ _ (outside 80 80 n h) (outside 90 92 n i))))))))
