-- The names of rows are capitals, and an octet is such a letter in either case where both agree but for the bit of 32. Assumes nothing.
use mathlib.Core.Path.{◌≡◌, refl, sym, subst, ◌∙◌}
use mathlib.Core.Bool.{Bool, true, false}
use mathlib.Core.List.{List, [], ◌∷◌}
use Prim.Native.Nat.{ℕ, zero, suc, ◌+◌, ◌-◌, ◌*◌, ◌<◌, ◌≤◌}
use native.Mathlib.Nat.{le_of_suc-le-suc, not-suc-le-zero}
use native.Mathlib.Omega.{arith}
use lib.Dec.{eqb, leb}
use lib.Bits.{bit_or}
use lib.ListN.{length, get_or, drop}
use borrow.Author.Tests.{eq-eqb, eqb-true, le-leb, leb-true}
use Rattle.octets.specs.Pick.{pick}
use Rattle.octets.specs.Classes.{within}
use Rattle.octets.specs.Cases.{lower, same}
use Rattle.octets.proofs.CaseLaws.{same_differ, same_next}
use Rattle.octets.specs.Ascii.{octets}
use Rattle.octets.specs.Counts.{all_in}
use Rattle.property_table.specs.Rows.{Row, rows, newer, all_rows, row_at, initial, agrees, Lists}
use Rattle.octets.proofs.Bools.{and_both}
use Rattle.octets.proofs.Upto.{upto, from, alike}
use Rattle.property_table.proofs.RowLaws.{listed, agree_both}

-- a test that all pass is passed by each
passed : (p : ℕ → Bool) (s : List ℕ) (i : ℕ) → all_in p s ≡ true → i < length s → p (get_or s i 0) ≡ true
unfolding all_in
passed p [] i e h = absurd (not-suc-le-zero h)
passed p (x ∷ xs) zero e h = (and_both (p x) (all_in p xs) e).0
passed p (x ∷ xs) (suc i) e h = passed p xs i (and_both (p x) (all_in p xs) e).1 (le_of_suc-le-suc h)

capital : (n i : ℕ) → n < 44 → i < length (row_at n).name → within 65 90 (get_or (row_at n).name i 0) ≡ true
unfolding upto all_in row_at rows newer all_rows octets
capital n i h g = passed (within 65 90) (row_at n).name i (alike (λ j. all_in (within 65 90) (row_at j).name) (λ j. true) 44 refl n h) g

-- the test of each octet against each capital
either : (a k : ℕ) → a < 256 → k < 26 → eqb (bit_or a 32) (bit_or (65 + k) 32) ≡ eqb (lower a) (lower (65 + k))
unfolding upto lower
either a k h g =
    let all = alike (λ x. upto (λ y. eqb (bit_or x 32) (bit_or y 32)) 65 26) (λ x. upto (λ y. eqb (lower x) (lower y)) 65 26) 256 refl a h in
    from (λ y. eqb (bit_or a 32) (bit_or y 32)) (λ y. eqb (lower a) (lower y)) 26 65 all k g

pub either_case : (a b : ℕ) → a < 256 → within 65 90 b ≡ true → eqb (bit_or a 32) (bit_or b 32) ≡ eqb (lower a) (lower b)
either_case a b h g =
    let r = and_both (leb 65 b) (leb b 90) g in
    let low = leb-true 65 b r.0 in
    let high = leb-true b 90 r.1 in
    let there : 65 + (b - 65) ≡ b = omega arith in
    subst (λ (y : ℕ). eqb (bit_or a 32) (bit_or y 32) ≡ eqb (lower a) (lower y)) there (either a (b - 65) h (omega arith))

-- the letter at i of row n's name, as the table t has it
module _ (t : List ℕ) (n i : ℕ) (h : Lists t) (l : n < 44) (p : 0 < i) (g : i < length (row_at n).name) where
  letter_there : get_or t (n * 16 + i) 0 ≡ get_or (row_at n).name i 0
  letter_there = (listed t h n l).spelt i p g

  test : (a : ℕ) → a < 256 → eqb (bit_or a 32) (bit_or (get_or t (n * 16 + i) 0) 32) ≡ eqb (lower a) (lower (get_or (row_at n).name i 0))
  test a b = rw (letter_there) (either_case a (get_or (row_at n).name i 0) b (capital n i l g))

  letter_same : (a : ℕ) → a < 256 → bit_or a 32 ≡ bit_or (get_or t (n * 16 + i) 0) 32 → lower a ≡ lower (get_or (row_at n).name i 0)
  letter_same a b e = eqb-true _ _ (sym (test a b) ∙ eq-eqb _ _ e)

  letter_other : (a : ℕ) → a < 256 → (bit_or a 32 ≡ bit_or (get_or t (n * 16 + i) 0) 32 → ⊥) → lower a ≡ lower (get_or (row_at n).name i 0) → ⊥
  letter_other a b f e = f (eqb-true _ _ (test a b ∙ eq-eqb _ _ e))

-- a name as long as row n's, at its octet i
module _ (t name : List ℕ) (n i : ℕ) (h : Lists t) (l : n < 44) (e : length (row_at n).name ≡ length name) (p : 0 < i) (g : i < length name) (b : get_or name i 0 < 256) where
  there : i < length (row_at n).name
  there = omega (arith, e)

  pub spelt_other : (bit_or (get_or name i 0) 32 ≡ bit_or (get_or t (n * 16 + i) 0) 32 → ⊥) → same (drop i name) (drop i (row_at n).name) ≡ false
  spelt_other f = same_differ name (row_at n).name i g there (letter_other t n i h l p there (get_or name i 0) b f)

  pub spelt_next : bit_or (get_or name i 0) 32 ≡ bit_or (get_or t (n * 16 + i) 0) 32
      → same (drop i name) (drop i (row_at n).name) ≡ same (drop (i + 1) name) (drop (i + 1) (row_at n).name)
  spelt_next q = same_next name (row_at n).name i g there (letter_same t n i h l p there (get_or name i 0) b q)

first_same : (a b : List ℕ) → length b ≡ length a → initial b ≡ initial a → same a b ≡ same (drop 1 a) (drop 1 b)
unfolding same initial
first_same [] [] e f = refl
first_same [] (y ∷ b) e f = absurd (omega arith)
first_same (x ∷ a) [] e f = absurd (omega arith)
first_same (x ∷ a) (y ∷ b) e f = rw (eq-eqb (lower x) (lower y) (sym f))

-- a row that agrees is spelt as the name is, where it is so behind the first letter
pub spelt_first : (v : List ℕ) (r : Row) → agrees v r ≡ true → same v r.name ≡ same (drop 1 v) (drop 1 r.name)
spelt_first v r e = let b = agree_both v r e in first_same v r.name b.0 b.1

-- an octet is a letter where it is one with the bit of 32, which then is its small letter
letter_test : (a : ℕ) → a < 256 → within 97 122 (bit_or a 32) ≡ within 97 122 (lower a)
unfolding upto lower
letter_test a h = alike (λ x. within 97 122 (bit_or x 32)) (λ x. within 97 122 (lower x)) 256 refl a h

small_test : (a : ℕ) → a < 256 → pick (within 97 122 (bit_or a 32)) (bit_or a 32) 0 ≡ pick (within 97 122 (bit_or a 32)) (lower a) 0
unfolding upto lower
small_test a h = alike (λ x. pick (within 97 122 (bit_or x 32)) (bit_or x 32) 0) (λ x. pick (within 97 122 (bit_or x 32)) (lower x) 0) 256 refl a h

pub letter_bounds : (a : ℕ) → a < 256 → within 97 122 (lower a) ≡ true → (97 ≤ bit_or a 32) × (bit_or a 32 ≤ 122)
letter_bounds a h e =
    let b = and_both (leb 97 (bit_or a 32)) (leb (bit_or a 32) 122) (letter_test a h ∙ e) in
    (leb-true _ _ b.0, leb-true _ _ b.1)

pub letter_small : (a : ℕ) → a < 256 → 97 ≤ bit_or a 32 → bit_or a 32 ≤ 122 → bit_or a 32 ≡ lower a
letter_small a h f g = rw (le-leb 97 (bit_or a 32) f, le-leb (bit_or a 32) 122 g) at (small_test a h)
