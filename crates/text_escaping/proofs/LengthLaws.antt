-- The length of the escaped form, and the text whose escaped form is itself. Assumes nothing.
use mathlib.Core.Path.{◌≡◌, refl, ap, ◌∙◌}
use mathlib.Core.Bool.{Bool, true, false}
use mathlib.Core.List.{List, [], ◌∷◌, ◌++◌}
use Prim.Native.Nat.{ℕ, ◌+◌}
use native.Mathlib.Omega.{arith}
use lib.ListN.{length, length-append}
use Rattle.octets.specs.Pick.{pick}
use Rattle.octets.specs.Classes.{bit}
use Rattle.text_marks.specs.Marks.{marked}
use Rattle.text_marks.specs.Seen.{held}
use Rattle.text_marks.proofs.SeenLaws.{unmarked}
use Rattle.text_escaping.specs.Escaped.{letter, in_escape, escaped}
use Rattle.octets.specs.Counts.{any, count}

in_length : (x : ℕ) → length (in_escape x) ≡ 1 + bit (marked x) 1
unfolding in_escape
in_length x = by (marked x)
  where
    by : (t : Bool) → length (pick t (92 ∷ letter x ∷ []) (x ∷ [])) ≡ 1 + bit t 1
    by true = refl
    by false = refl

-- each octet that escaping changes adds one
pub escaped_length : (l : List ℕ) → length (escaped l) ≡ length l + count marked l
unfolding escaped count
escaped_length [] = refl
escaped_length (x ∷ xs) = length-append (in_escape x) (escaped xs) ∙ omega (arith, in_length x, escaped_length xs)

pub none_escaped : (l : List ℕ) → count marked l ≡ 0 → escaped l ≡ l
unfolding escaped in_escape count
none_escaped [] z = refl
none_escaped (x ∷ xs) z = by (marked x) z (none_escaped xs)
  where
    by : (t : Bool) → bit t 1 + count marked xs ≡ 0 → (count marked xs ≡ 0 → escaped xs ≡ xs) → pick t (92 ∷ letter x ∷ []) (x ∷ []) ++ escaped xs ≡ x ∷ xs
    by true z f = absurd (omega arith)
    by false z f = ap (λ (r : List ℕ). x ∷ r) (f (omega arith))

-- a text that escaping does not change
pub same_unmarked : (s : List ℕ) → any (held 59 10) s ≡ false → escaped s ≡ s
same_unmarked s e = none_escaped s (unmarked s e)
