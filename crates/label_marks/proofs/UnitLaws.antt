-- The character of a label at a place, by the class of its octet; and a text whose octets are all good ASCII. Assumes nothing.
use mathlib.Core.Path.{◌≡◌, refl, sym, ap, ◌∙◌}
use mathlib.Core.Bool.{Bool, true, false, not, ◌&&◌, ◌||◌, or-true, true≢false}
use mathlib.Core.List.{List, [], ◌∷◌}
use Prim.Native.Nat.{ℕ, ◌<◌, ◌≤◌}
use native.Mathlib.Nat.{add-zero}
use native.Mathlib.Omega.{arith}
use lib.Dec.{eqb, leb, ltb}
use lib.ListN.{length, get_or, drop}
use lib.Seq.{get_or-drop}
use borrow.Author.Tests.{ltb-false, le-leb, eqb-true}
use Rattle.octets.specs.Classes.{within, valued, quoted, quoted_mask, has}
use Rattle.octets.specs.Counts.{any}
use Rattle.octets.proofs.Bools.{or_none_left, or_none_right}
use Rattle.octets.proofs.Masks.{has_quoted}
use Rattle.utf8.specs.Characters.{char_length, allowed, unit, first_bad}
use Rattle.utf8.proofs.Chars.{ascii}
use Rattle.utf8.proofs.Chains.{Chars, end, start, chars_good}
use Rattle.utf8_screening.specs.Plain.{odd}
use Rattle.label_marks.specs.Seen.{amiss}

module _ (s : List ℕ) (i : ℕ) where
  pub unit_no : has quoted_mask (get_or s i 0) ≡ false → unit quoted (drop i s) ≡ 0
  unfolding unit
  unit_no e = simp (get_or-drop, add-zero, sym (has_quoted (get_or s i 0)), e)

  pub unit_yes : has quoted_mask (get_or s i 0) ≡ true → unit quoted (drop i s) ≡ char_length (drop i s)
  unfolding unit
  unit_yes e = simp (get_or-drop, add-zero, sym (has_quoted (get_or s i 0)), e)

-- where no octet is amiss, and those that are not are allowed ASCII, no octet is bad
module _ (p a : ℕ → Bool) (fine : (b : ℕ) → a b ≡ false → (p b ≡ true) × (b < 128)) where
  good_chars : (s : List ℕ) → any a s ≡ false → Chars p 0 s
  unfolding any
  good_chars [] e = end
  good_chars (x ∷ xs) e =
      let f = fine x (or_none_left (a x) (any a xs) e) in
      start f.0 (ascii (x ∷ xs) 0 (omega arith) f.1) (good_chars xs (or_none_right (a x) (any a xs) e))

  none_amiss : (s : List ℕ) → any a s ≡ false → first_bad p s ≡ length s
  none_amiss s e = chars_good p s (good_chars s e)

-- a plain octet is an octet of a value, and ASCII
plain_valued : (b : ℕ) → odd b ≡ false → (valued b ≡ true) × (b < 128)
unfolding odd valued
plain_valued b e = cases (eqb b 9) refl (or_none_right (ltb 126 b) (ltb b 32 && not (eqb b 9)) e)
  where
    high : b ≤ 126
    high = ltb-false 126 b (or_none_left (ltb 126 b) (ltb b 32 && not (eqb b 9)) e)

    low : (t : Bool) → ltb b 32 ≡ t → (t && true) ≡ false → 32 ≤ b
    low true h z = absurd (true≢false z)
    low false h z = ltb-false b 32 h

    cases : (t : Bool) → eqb b 9 ≡ t → (ltb b 32 && not t) ≡ false → ((t || (within 32 126 b || leb 128 b)) ≡ true) × (b < 128)
    cases true h z = (refl, omega (arith, high))
    cases false h z = let l = low (ltb b 32) refl z in (simp (le-leb 32 b l, le-leb b 126 high), omega (arith, high))

-- an octet that is not amiss in a value: it is plain, or LF
value_fine : (b : ℕ) → amiss 10 0 b ≡ false → (allowed true b ≡ true) × (b < 128)
unfolding amiss allowed
value_fine b e = by (odd b) refl (or_none_left (odd b && not (eqb b 10)) (eqb b 0) e)
  where
    lf : (t : Bool) → eqb b 10 ≡ t → not t ≡ false → ((valued b || t) ≡ true) × (b < 128)
    lf true h z = (or-true (valued b), omega (arith, eqb-true b 10 h))
    lf false h z = absurd (true≢false z)

    by : (o : Bool) → odd b ≡ o → (o && not (eqb b 10)) ≡ false → ((valued b || eqb b 10) ≡ true) × (b < 128)
    by true h z = lf (eqb b 10) refl z
    by false h z = let v = plain_valued b h in (rw v.0 refl, v.1)

caret_plain : odd 94 ≡ false
unfolding odd
caret_plain = refl

-- an octet that is not amiss in a label: it is plain, and no quote mark
label_fine : (b : ℕ) → amiss 94 34 b ≡ false → (quoted b ≡ true) × (b < 128)
unfolding amiss quoted
label_fine b e = by (odd b) refl (or_none_left (odd b && not (eqb b 94)) (eqb b 34) e)
  where
    caret : (t : Bool) → eqb b 94 ≡ t → odd b ≡ true → not t ≡ false → ((valued b && not (eqb b 34)) ≡ true) × (b < 128)
    caret true h o z = absurd (true≢false (sym o ∙ ap odd (eqb-true b 94 h) ∙ caret_plain))
    caret false h o z = absurd (true≢false z)

    by : (o : Bool) → odd b ≡ o → (o && not (eqb b 94)) ≡ false → ((valued b && not (eqb b 34)) ≡ true) × (b < 128)
    by true h z = caret (eqb b 94) refl h z
    by false h z = let v = plain_valued b h in (rw (v.0, or_none_right (odd b && not (eqb b 94)) (eqb b 34) e) refl, v.1)

-- where no octet is amiss there is no bad one
pub good_value : (s : List ℕ) → any (amiss 10 0) s ≡ false → first_bad (allowed true) s ≡ length s
good_value s e = none_amiss (allowed true) (amiss 10 0) value_fine s e

pub good_label : (s : List ℕ) → any (amiss 94 34) s ≡ false → first_bad quoted s ≡ length s
good_label s e = none_amiss quoted (amiss 94 34) label_fine s e
