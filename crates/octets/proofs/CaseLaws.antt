-- The laws of `lower` by its three ranges, of `same` at a place of two lists, and that both are the library's. Assumes nothing.
use mathlib.Core.Path.{◌≡◌, refl, ap, ◌∙◌}
use mathlib.Core.Bool.{Bool, true, false, ◌&&◌, and-false}
use mathlib.Core.List.{List, [], ◌∷◌}
use Prim.Native.Nat.{ℕ, suc, ◌+◌, ◌<◌, ◌≤◌}
use native.Mathlib.Numerals.{add-one}
use lib.Dec.{eqb}
use lib.ListN.{length, get_or, drop, drop_of_length-le}
use lib.Seq.{drop-cons}
use borrow.Author.Tests.{eq-eqb, ne_eqb, le-leb, lt-leb}
use native.Mathlib.Omega.{arith}
use Rattle.std.specs.Bool.{Decides}
use Rattle.std.specs.Char.{to_ascii_lowercase}
use Rattle.std.specs.Str.{bytes_eq, str_to_ascii_lowercase}
use Rattle.std.proofs.lemmas.Slice.Eq.{bytes_eq-Decides}
use Rattle.std.proofs.lemmas.Bool.Decides.{same_from_decides}
use Rattle.octets.specs.Cases.{lower, same}

pub lower_below : (b : ℕ) → b < 65 → lower b ≡ b
unfolding lower
lower_below b h = rw (lt-leb 65 b h)

pub lower_above : (b : ℕ) → 65 ≤ b → 90 < b → lower b ≡ b
unfolding lower
lower_above b g h = rw (le-leb 65 b g, lt-leb b 90 h)

pub lower_capital : (b : ℕ) → 65 ≤ b → b ≤ 90 → lower b ≡ b + 32
unfolding lower
lower_capital b g h = rw (le-leb 65 b g, le-leb b 90 h)

pub same_length : (a b : List ℕ) → (length a ≡ length b → ⊥) → same a b ≡ false
unfolding same
same_length [] [] h = absurd (h refl)
same_length [] (y ∷ ys) h = refl
same_length (x ∷ xs) [] h = refl
same_length (x ∷ xs) (y ∷ ys) h = rw (same_length xs ys (λ e. h (ap suc e))) (and-false (eqb (lower x) (lower y)))

module _ (a b : List ℕ) (i : ℕ) where
  same_at : i < length a → i < length b
      → same (drop i a) (drop i b) ≡ eqb (lower (get_or a i 0)) (lower (get_or b i 0)) && same (drop (i + 1) a) (drop (i + 1) b)
  unfolding same
  same_at g h = rw (add-one, drop-cons a i 0 g, drop-cons b i 0 h)

  pub same_differ : i < length a → i < length b → (lower (get_or a i 0) ≡ lower (get_or b i 0) → ⊥) → same (drop i a) (drop i b) ≡ false
  same_differ g h e = same_at g h ∙ rw (ne_eqb _ _ e)

  pub same_next : i < length a → i < length b → lower (get_or a i 0) ≡ lower (get_or b i 0)
      → same (drop i a) (drop i b) ≡ same (drop (i + 1) a) (drop (i + 1) b)
  same_next g h e = same_at g h ∙ rw (eq-eqb _ _ e)

  pub same_over : length a ≤ i → length b ≤ i → same (drop i a) (drop i b) ≡ true
  unfolding same
  same_over g h = rw (drop_of_length-le a g, drop_of_length-le b h)

pub lower_is : (b : ℕ) → to_ascii_lowercase b ≡ lower b
unfolding lower
lower_is b = grind arith

same_is : (a b : List ℕ) → bytes_eq (str_to_ascii_lowercase a) (str_to_ascii_lowercase b) ≡ same a b
unfolding same
same_is [] [] = refl
same_is [] (y ∷ ys) = refl
same_is (x ∷ xs) [] = refl
same_is (x ∷ xs) (y ∷ ys) = rw (lower_is x, lower_is y, same_is xs ys)

pub same_by : (r : Bool) (a b : List ℕ) → Decides r (str_to_ascii_lowercase a ≡ str_to_ascii_lowercase b) → r ≡ same a b
same_by r a b h = same_from_decides r _ h (bytes_eq-Decides _ _) ∙ same_is a b
