-- What is seen of a text is what is seen of its parts, and what it says of the text. Assumes nothing.
use mathlib.Core.Path.{◌≡◌, refl, sym, ap, ◌∙◌}
use mathlib.Core.Bool.{Bool, true, false, ◌||◌, or-false, or_assoc}
use mathlib.Core.List.{List, [], ◌∷◌, ◌++◌}
use Prim.Native.Nat.{ℕ, zero, suc, ◌+◌, ◌-◌, ◌*◌, ◌<◌, ◌≤◌}
use native.Mathlib.Nat.{le_of_suc-le-suc}
use native.Mathlib.Numerals.{add-one}
use native.Mathlib.Omega.{arith}
use lib.Dec.{eqb}
use lib.Bits.{bit_or}
use lib.ListN.{length, get_or, take, drop, length-drop}
use lib.Seq.{take-suc, take_all}
use Rattle.octets.specs.Classes.{bit}
use Rattle.octets.proofs.Bools.{or_none_left, or_none_right}
use Rattle.utf8.specs.Characters.{allowed, first_bad}
use Rattle.utf8_screening.specs.Plain.{odd, all_plain}
use Rattle.utf8_screening.proofs.PlainLaws.{plain_all}
use Rattle.octets.specs.Counts.{any, count}
use Rattle.text_marks.specs.Marks.{backslash, special, marked}
use Rattle.text_marks.specs.Seen.{held, seen_by}

-- the parts of a list
module _ (p : ℕ → Bool) where
  any_append : (a b : List ℕ) → any p (a ++ b) ≡ (any p a || any p b)
  unfolding any
  any_append [] b = refl
  any_append (x ∷ xs) b = ap (λ (t : Bool). p x || t) (any_append xs b) ∙ sym (or_assoc (p x) (any p xs) (any p b))

  any_take : (k : ℕ) (s : List ℕ) → any p s ≡ (any p (take k s) || any p s)
  unfolding any
  any_take zero s = refl
  any_take (suc k) [] = refl
  any_take (suc k) (x ∷ xs) = by (p x) (any_take k xs)
    where
      by : (t : Bool) → any p xs ≡ (any p (take k xs) || any p xs) → (t || any p xs) ≡ ((t || any p (take k xs)) || (t || any p xs))
      by true e = refl
      by false e = e

  any_parts : (from end : ℕ) → from ≤ end → (s : List ℕ) → any p s ≡ (any p (take end s) || any p (drop from s))
  unfolding any
  any_parts zero end h s = any_take end s
  any_parts (suc f) zero h s = absurd (omega arith)
  any_parts (suc f) (suc k) h [] = refl
  any_parts (suc f) (suc k) h (x ∷ xs) =
      ap (λ (t : Bool). p x || t) (any_parts f k (le_of_suc-le-suc h) xs) ∙ sym (or_assoc (p x) (any p (take k xs)) (any p (drop f xs)))

two_or : (a b c d : Bool) → bit_or (bit a 1 + bit b 2) (bit c 1 + bit d 2) ≡ bit (a || c) 1 + bit (b || d) 2
two_or true true true true = refl
two_or true true true false = refl
two_or true true false true = refl
two_or true true false false = refl
two_or true false true true = refl
two_or true false true false = refl
two_or true false false true = refl
two_or true false false false = refl
two_or false true true true = refl
two_or false true true false = refl
two_or false true false true = refl
two_or false true false false = refl
two_or false false true true = refl
two_or false false true false = refl
two_or false false false true = refl
two_or false false false false = refl

module _ (p q : ℕ → Bool) where
  joined : (s a b : List ℕ) → any p s ≡ (any p a || any p b) → any q s ≡ (any q a || any q b) → bit_or (seen_by p q a) (seen_by p q b) ≡ seen_by p q s
  unfolding seen_by
  joined s a b e f = two_or (any p a) (any q a) (any p b) (any q b) ∙ rw (e, f)

  pub seen_none : seen_by p q [] ≡ 0
  unfolding seen_by any
  seen_none = refl

  pub seen_one : (b m n : ℕ) → m ≡ bit (p b) 1 → n ≡ bit (q b) 1 → m + 2 * n ≡ seen_by p q (b ∷ [])
  unfolding seen_by any
  seen_one b m n e f = rw (e, f, or-false (p b), or-false (q b)) (by (p b) (q b))
    where
      by : (o h : Bool) → bit o 1 + 2 * bit h 1 ≡ bit o 1 + bit h 2
      by o true = refl
      by o false = refl

  module _ (s : List ℕ) where
    pub seen_step : (i m n : ℕ) → i < length s → m ≡ seen_by p q (take i s) → n ≡ seen_by p q (get_or s i 0 ∷ []) → bit_or m n ≡ seen_by p q (take (i + 1) s)
    seen_step i m n h e f =
        rw (e, f, add-one, take-suc s i 0 h)
        (joined (take i s ++ (get_or s i 0 ∷ [])) (take i s) (get_or s i 0 ∷ []) (any_append p (take i s) (get_or s i 0 ∷ [])) (any_append q (take i s) (get_or s i 0 ∷ [])))

    pub seen_parts : (end from m n : ℕ) → from ≤ end → m ≡ seen_by p q (take end s) → n ≡ seen_by p q (take (length s - from) (drop from s)) → bit_or m n ≡ seen_by p q s
    seen_parts end from m n h e f =
        let d : length (drop from s) ≤ length s - from = rw (length-drop from s) (omega arith) in
        rw (e, f, take_all (length s - from) (drop from s) d)
        (joined s (take end s) (drop from s) (any_parts p from end h s) (any_parts q from end h s))

-- what the two bits say
no_low : (a b : Bool) → bit a 1 + bit b 2 ≡ 0 → a ≡ false
no_low true b e = absurd (omega arith)
no_low false b e = refl

no_high : (a b : Bool) → bit a 1 + bit b 2 < 2 → b ≡ false
no_high a true e = absurd (omega arith)
no_high a false e = refl

only_high : (a b : Bool) → bit a 1 + bit b 2 ≡ 2 → a ≡ false
only_high true true e = absurd (omega arith)
only_high true false e = absurd (omega arith)
only_high false b e = refl

-- a text without odd octets
plain : (s : List ℕ) → any odd s ≡ false → all_plain s ≡ true
unfolding any all_plain
plain [] e = refl
plain (x ∷ xs) e = rw (or_none_left (odd x) (any odd xs) e) (plain xs (or_none_right (odd x) (any odd xs) e))

-- a text without octets that escaping changes
pub held_marked : (b : ℕ) → held 59 10 b ≡ marked b
unfolding held marked special
held_marked b = by (backslash b) (eqb b 44) (eqb b 59) (eqb b 10)
  where
    by : (p q r t : Bool) → ((p || q) || (r || t)) ≡ ((p || (q || r)) || t)
    by true q r t = refl
    by false true r t = refl
    by false false r t = refl

pub unmarked : (s : List ℕ) → any (held 59 10) s ≡ false → count marked s ≡ 0
unfolding any count
unmarked [] e = refl
unmarked (x ∷ xs) e =
    let n : marked x ≡ false = sym (held_marked x) ∙ or_none_left (held 59 10 x) (any (held 59 10) xs) e in
    rw n (omega (arith, unmarked xs (or_none_right (held 59 10 x) (any (held 59 10) xs) e)))

module _ (p q : ℕ → Bool) (s : List ℕ) (n : ℕ) (e : n ≡ seen_by p q s) where
  pub seen_plain : (n ≡ 0 → any p s ≡ false) × (n ≡ 2 → any p s ≡ false)
  unfolding seen_by
  seen_plain = (λ z. no_low (any p s) (any q s) (sym e ∙ z), λ z. only_high (any p s) (any q s) (sym e ∙ z))

  pub seen_low : n < 2 → any q s ≡ false
  unfolding seen_by
  seen_low h = no_high (any p s) (any q s) (omega arith)

pub good_plain : (lf : Bool) (s : List ℕ) → any odd s ≡ false → length s ≡ first_bad (allowed lf) s
good_plain lf s e = sym (plain_all lf s (plain s e))
