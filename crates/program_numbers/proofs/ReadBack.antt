-- What is written is read back: the decimal digits of a number, and the pairs of digits of octets. Assumes nothing.
use mathlib.Core.Path.{◌≡◌, refl, ◌∙◌}
use mathlib.Core.Bool.{Bool, true, false, and-false}
use mathlib.Core.List.{List, [], ◌∷◌, ◌++◌}
use Prim.Native.Nat.{ℕ, zero, suc, ◌+◌, ◌*◌, ◌/◌, ◌%◌, ◌^◌, ◌≤◌, ◌<◌}
use native.Mathlib.Nat.{pow-suc}
use native.Mathlib.Omega.{arith}
use lib.Dec.{ltb, eqb}
use lib.ListN.{length, length-append}
use borrow.Author.Tests.{ltb-true, ltb-false, lt-ltb, le-leb, ne_eqb}
use Rattle.std.specs.Prelude.{Some}
use Rattle.numbers.specs.Limits as limit
use Rattle.octets.specs.Pick.{pick}
use Rattle.octets.specs.Ascii.{octets}
use Rattle.octets.specs.Counts.{all_in}
use Rattle.program_numbers.specs.Alike.{alike}
use Rattle.program_numbers.specs.Decimal.{ones, digit, value_from, number_from, number_of}
use Rattle.program_numbers.specs.Hex.{value, hexed, paired, decoded, stored, octets_of}
use Rattle.octets.proofs.Bools.{and_both}
use Rattle.program_numbers.proofs.ListLaws.{above, inside}
use Rattle.program_numbers.proofs.NumberLaws.{value_join}

-- the last k decimal digits of n, the most significant first
unfoldable pub digits_of : ℕ → ℕ → List ℕ
digits_of zero n = []
digits_of (suc k) n = digits_of k (n / 10) ++ ((48 + n % 10) ∷ [])

ones_of : (d : ℕ) → d < 10 → ones (48 + d) ≡ d
unfolding ones
ones_of d h = rw (inside 48 57 (48 + d) (omega arith) (omega arith)) (omega arith)

all_join : (p : ℕ → Bool) (a b : List ℕ) → all_in p a ≡ true → all_in p b ≡ true → all_in p (a ++ b) ≡ true
unfolding all_in
all_join p [] b g h = h
all_join p (x ∷ xs) b g h = rw (and_both (p x) (all_in p xs) g).0 (all_join p xs b (and_both (p x) (all_in p xs) g).1 h)

digits_are : (k n : ℕ) → all_in digit (digits_of k n) ≡ true
unfolding digits_of all_in digit
digits_are zero n = refl
digits_are (suc k) n =
    all_join digit (digits_of k (n / 10)) ((48 + n % 10) ∷ []) (digits_are k (n / 10)) (rw (ones_of (n % 10) (omega arith), lt-ltb (n % 10) 10 (omega arith)))

digits_value : (k n : ℕ) → n < 10 ^ k → value_from 0 (digits_of k n) ≡ n
unfolding digits_of value_from
digits_value zero n h = omega arith
digits_value (suc k) n h =
    value_join 0 (digits_of k (n / 10)) ((48 + n % 10) ∷ []) ∙ rw (digits_value k (n / 10) (omega (arith, pow-suc 10 k)), ones_of (n % 10) (omega arith)) (omega arith)

digits_some : (k n : ℕ) → length (digits_of (suc k) n) ≡ 0 → ⊥
unfolding digits_of
digits_some k n e = omega (arith, length-append (digits_of k (n / 10)) ((48 + n % 10) ∷ []))

-- as many digits as a number needs, or more, are that number
pub number_back : (k n : ℕ) → n < 10 ^ suc k → n ≤ limit.largest64 → number_of (digits_of (suc k) n) ≡ Some n
unfolding number_of number_from
number_back k n h g =
    rw (ne_eqb (length (digits_of (suc k) n)) 0 (digits_some k n), digits_are (suc k) n, digits_value (suc k) n h, le-leb n limit.largest64 g)

-- the digit of a number below 16, and an octet's two digits
abbrev pub glyph : ℕ → ℕ
glyph d = pick (ltb d 10) (48 + d) (87 + d)

unfoldable pub pairs_of : List ℕ → List ℕ
pairs_of [] = []
pairs_of (x ∷ xs) = glyph (x / 16) ∷ glyph (x % 16) ∷ pairs_of xs

glyph_value : (d : ℕ) → d < 16 → value (glyph d) ≡ d
unfolding value
glyph_value d h = by (ltb d 10) refl
  where
    by : (t : Bool) → ltb d 10 ≡ t → value (pick t (48 + d) (87 + d)) ≡ d
    by true e = rw (inside 48 57 (48 + d) (omega arith) (omega (arith, ltb-true d 10 e))) (omega arith)
    by false e =
        rw (above 48 57 (87 + d) (omega (arith, ltb-false d 10 e)), above 65 70 (87 + d) (omega (arith, ltb-false d 10 e)), inside 97 102 (87 + d) (omega (arith, ltb-false d 10 e)) (omega arith))
        (omega arith)

-- each element is an octet
unfoldable pub octetal : List ℕ → Bool
octetal l = all_in (λ x. ltb x 256) l

octet_low : (x : ℕ) (xs : List ℕ) → octetal (x ∷ xs) ≡ true → x < 256
unfolding octetal all_in
octet_low x xs h = ltb-true x 256 (and_both (ltb x 256) (octetal xs) h).0

octets_low : (x : ℕ) (xs : List ℕ) → octetal (x ∷ xs) ≡ true → octetal xs ≡ true
unfolding octetal all_in
octets_low x xs h = (and_both (ltb x 256) (octetal xs) h).1

pairs_decoded : (l : List ℕ) → octetal l ≡ true → decoded (pairs_of l) ≡ l
unfolding pairs_of decoded
pairs_decoded [] h = refl
pairs_decoded (x ∷ xs) h =
    let low = octet_low x xs h in
    let here : 16 * (x / 16) + x % 16 ≡ x = omega arith in
    rw (glyph_value (x / 16) (omega arith), glyph_value (x % 16) (omega arith), here, pairs_decoded xs (octets_low x xs h))

pairs_hexed : (l : List ℕ) → octetal l ≡ true → all_in hexed (pairs_of l) ≡ true
unfolding pairs_of all_in hexed
pairs_hexed [] h = refl
pairs_hexed (x ∷ xs) h =
    let low = octet_low x xs h in
    rw (glyph_value (x / 16) (omega arith), glyph_value (x % 16) (omega arith), lt-ltb (x / 16) 16 (omega arith), lt-ltb (x % 16) 16 (omega arith))
    (pairs_hexed xs (octets_low x xs h))

pairs_length : (l : List ℕ) → length (pairs_of l) ≡ 2 * length l
unfolding pairs_of
pairs_length [] = refl
pairs_length (x ∷ xs) = omega (arith, pairs_length xs)

pairs_paired : (x : ℕ) (xs : List ℕ) → octetal (x ∷ xs) ≡ true → paired (pairs_of (x ∷ xs)) ≡ true
unfolding paired
pairs_paired x xs h =
    let n = pairs_length (x ∷ xs) in
    rw (ne_eqb (length (pairs_of (x ∷ xs))) 0 (λ e. omega arith), ne_eqb (length (pairs_of (x ∷ xs)) % 2) 1 (λ e. omega arith)) (pairs_hexed (x ∷ xs) h)

pairs_alike : (x : ℕ) (xs : List ℕ) → alike (pairs_of (x ∷ xs)) (octets "-") ≡ false
unfolding pairs_of alike octets
pairs_alike x xs = and-false (eqb (glyph (x / 16)) 45)

-- the pairs of digits of octets are those octets, and `-` is none
pub octets_back : (x : ℕ) (xs room : List ℕ) → octetal (x ∷ xs) ≡ true → octets_of (pairs_of (x ∷ xs)) room ≡ stored (x ∷ xs) room
unfolding octets_of
octets_back x xs room h = rw (pairs_alike x xs, pairs_paired x xs h, pairs_decoded (x ∷ xs) h)

pub none_back : (room : List ℕ) → octets_of (octets "-") room ≡ stored [] room
unfolding octets_of octets alike
none_back room = refl
