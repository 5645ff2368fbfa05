-- Writing in pairs from a place of a text on, and what a table of letters writes. Assumes nothing.
use mathlib.Core.Path.{◌≡◌, refl, sym, ap, ◌∙◌}
use mathlib.Core.Bool.{Bool, true, false, true≢false}
use mathlib.Core.List.{List, [], ◌∷◌, ◌++◌}
use Prim.Native.Nat.{ℕ, ◌+◌, ◌<◌, ◌≤◌}
use native.Mathlib.Numerals.{add-one}
use native.Mathlib.Omega.{arith}
use lib.Dec.{eqb}
use lib.ListN.{length, get_or, drop, drop_of_length-le}
use lib.Seq.{drop-cons}
use borrow.Author.Tests.{eq-eqb, ne_eqb}
use Rattle.octets.specs.Pick.{pick}
use Rattle.text_marks.specs.Marks.{special, marked}
use Rattle.text_escaping.specs.Escaped.{letter, in_escape, Letters, escaped}
use Rattle.text_escaping.specs.Coded.{in_code, coded}

-- the octet at i
module _ (lead : ℕ) (t s : List ℕ) (i : ℕ) where
  pub coded_end : length s ≤ i → coded lead t (drop i s) ≡ []
  unfolding coded
  coded_end h = rw (drop_of_length-le s h)

  pub coded_pair : i < length s → (get_or t (get_or s i 0) 0 ≡ 0 → ⊥) → coded lead t (drop i s) ≡ (lead ∷ get_or t (get_or s i 0) 0 ∷ []) ++ coded lead t (drop (i + 1) s)
  unfolding coded in_code
  coded_pair h n = rw (add-one, drop-cons s i 0) (simp (ne_eqb (get_or t (get_or s i 0) 0) 0 n))

  pub coded_octet : i < length s → get_or t (get_or s i 0) 0 ≡ 0 → coded lead t (drop i s) ≡ (get_or s i 0 ∷ []) ++ coded lead t (drop (i + 1) s)
  unfolding coded in_code
  coded_octet h e = rw (add-one, drop-cons s i 0) (simp (eq-eqb (get_or t (get_or s i 0) 0) 0 e))

-- a table that has the letters of the octets that are marked, none of them 0
pub in_code_lem : (lead : ℕ) (mark : ℕ → Bool) (letter : ℕ → ℕ) (t : List ℕ) (b : ℕ) → get_or t b 0 ≡ pick (mark b) (letter b) 0 → (mark b ≡ true → letter b ≡ 0 → ⊥)
    → in_code lead t b ≡ pick (mark b) (lead ∷ letter b ∷ []) (b ∷ [])
unfolding in_code
in_code_lem lead mark letter t b e n = rw e (by (mark b) refl)
  where
    by : (m : Bool) → mark b ≡ m → pick (eqb (pick m (letter b) 0) 0) (b ∷ []) (lead ∷ pick m (letter b) 0 ∷ []) ≡ pick m (lead ∷ letter b ∷ []) (b ∷ [])
    by true h = simp (ne_eqb (letter b) 0 (n h))
    by false h = refl

zero_stays : marked 0 ≡ false
unfolding marked special
zero_stays = refl

letter_ne : (b : ℕ) → marked b ≡ true → letter b ≡ 0 → ⊥
unfolding letter
letter_ne b m z = by (eqb b 10) z
  where
    by : (n : Bool) → ◌≡◌ {A = ℕ} (pick n 110 b) 0 → ⊥
    by true z = omega arith
    by false z = true≢false (sym m ∙ ap marked z ∙ zero_stays)

-- the letters of escapes after backslashes write the escaped form
pub coded_escaped : (t : List ℕ) → Letters t → (l : List ℕ) → coded 92 t l ≡ escaped l
unfolding coded escaped Letters in_escape
coded_escaped t law [] = refl
coded_escaped t law (x ∷ xs) = rw (in_code_lem 92 marked letter t x (law x) (letter_ne x), coded_escaped t law xs) refl
