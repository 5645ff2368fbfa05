-- A value as a label: what the table of letters writes, its length, and the values that stay as they are. Assumes nothing.
use mathlib.Core.Path.{◌≡◌, refl, sym, ap, ◌∙◌}
use mathlib.Core.Bool.{Bool, true, false, true≢false}
use mathlib.Core.List.{List, [], ◌∷◌}
use Prim.Native.Nat.{ℕ, ◌+◌}
use native.Mathlib.Omega.{arith}
use lib.Dec.{eqb}
use lib.ListN.{length, length-append}
use Rattle.octets.specs.Pick.{pick}
use Rattle.octets.specs.Classes.{bit}
use Rattle.octets.specs.Counts.{any, count}
use Rattle.octets.proofs.Bools.{or_none_left, or_none_right}
use Rattle.text_escaping.specs.Coded.{coded}
use Rattle.text_escaping.proofs.CodedLaws.{in_code_lem}
use Rattle.label_marks.specs.Seen.{mark}
use Rattle.label_carets.specs.Encoded.{marked, letter, in_label, encoded, Letters}
use Rattle.label_carets.specs.declared.Rule.{Rule}
use Rattle.label_carets.specs.declared.Rule.TheVariants.{Rfc6350, Rfc6868}

zero_stays : marked 0 ≡ false
unfolding mark
zero_stays = refl

letter_ne : (b : ℕ) → marked b ≡ true → letter b ≡ 0 → ⊥
unfolding letter
letter_ne b m z = by (eqb b 10) (eqb b 34) z
  where
    by : (n q : Bool) → ◌≡◌ {A = ℕ} (pick n 110 (pick q 39 b)) 0 → ⊥
    by true q z = omega arith
    by false true z = omega arith
    by false false z = true≢false (sym m ∙ ap marked z ∙ zero_stays)

-- the letters of pairs after carets write the label
pub coded_encoded : (t : List ℕ) → Letters t → (l : List ℕ) → coded 94 t l ≡ encoded Rfc6868 l
unfolding coded encoded Letters
coded_encoded t law [] = refl
coded_encoded t law (x ∷ xs) = rw (in_code_lem 94 marked letter t x (law x) (letter_ne x), coded_encoded t law xs) refl

in_length : (x : ℕ) → length (in_label Rfc6868 x) ≡ 1 + bit (marked x) 1
in_length x = by (marked x)
  where
    by : (t : Bool) → length (pick t (94 ∷ letter x ∷ []) (x ∷ [])) ≡ 1 + bit t 1
    by true = refl
    by false = refl

-- each mark adds one
pub encoded_length : (l : List ℕ) → length (encoded Rfc6868 l) ≡ length l + count marked l
unfolding encoded count
encoded_length [] = refl
encoded_length (x ∷ xs) = length-append (in_label Rfc6868 x) (encoded Rfc6868 xs) ∙ omega (arith, in_length x, encoded_length xs)

-- RFC 6350 changes nothing, nor does RFC 6868 where there is no mark
pub old_encoded : (l : List ℕ) → encoded Rfc6350 l ≡ l
unfolding encoded
old_encoded [] = refl
old_encoded (x ∷ xs) = ap (λ (l : List ℕ). x ∷ l) (old_encoded xs)

pub none_encoded : (r : Rule) (l : List ℕ) → any marked l ≡ false → encoded r l ≡ l
unfolding encoded any
none_encoded Rfc6350 l e = old_encoded l
none_encoded Rfc6868 [] e = refl
none_encoded Rfc6868 (x ∷ xs) e =
    rw (or_none_left (marked x) (any marked xs) e) (ap (λ (l : List ℕ). x ∷ l) (none_encoded Rfc6868 xs (or_none_right (marked x) (any marked xs) e)))
