-- What the tests of digits, floats and marks say of a list, case by case. Assumes nothing.
use mathlib.Core.Path.{◌≡◌, refl, sym, ap, ◌∙◌}
use mathlib.Core.Bool.{Bool, true, false, not, ◌&&◌}
use mathlib.Core.List.{List, [], ◌∷◌}
use Prim.Native.Nat.{ℕ, ◌+◌, ◌-◌, ◌<◌, ◌≤◌}
use native.Mathlib.Numerals.{add-one}
use native.Mathlib.Omega.{arith}
use lib.Dec.{eqb, leb}
use lib.ListN.{length, get_or, take, drop, set, length-set, length-append, length-drop}
use lib.Seq.{set-append_left, set_out}
use borrow.Author.Tests.{lt-ltb, le-ltb, lt-leb, le-leb, eq-eqb, ne_eqb, eqb-true, eqb-false}
use Rattle.std.specs.List.{starts_with}
use Rattle.octets.specs.Ascii.{octets}
use Rattle.octets.specs.Pick.{pick}
use Rattle.octets.specs.Room.{overlay}
use Rattle.octets.specs.Classes.{run, digit}
use Rattle.version3_geo.specs.Floats.{digits, fraction, unsigned, sign, float, up_to, floats, swapped, schemed, new_geo, geo_text, made_new, made_old}

pub digit_low : (b : ℕ) → b < 48 → false ≡ digit b
unfolding digit
digit_low b h = sym (rw (lt-leb 48 b h))

pub digit_by : (b : ℕ) → 48 ≤ b → leb b 57 ≡ digit b
unfolding digit
digit_by b h = sym (rw (le-leb 48 b h))

-- a digit is what no search for another octet finds
pub digit_not : (b : ℕ) → digit b ≡ not (not (digit b))
digit_not b = go (digit b)
  where
    go : (t : Bool) → t ≡ not (not t)
    go true = refl
    go false = refl

module _ (l : List ℕ) where
  pub digits_none : length l ≡ 0 → false ≡ digits l
  unfolding digits
  digits_none e = sym (rw (le-ltb 0 (length l) (omega arith)))

  pub digits_by : (r : ℕ) → (length l ≡ 0 → ⊥) → r ≡ run digit l → eqb r (length l) ≡ digits l
  unfolding digits
  digits_by r n e = sym (rw (lt-ltb 0 (length l) (omega (arith, n)), ← e))

  pub fraction_none : length l ≡ 0 → true ≡ fraction l
  unfolding fraction
  fraction_none e = sym (rw (eq-eqb (length l) 0 e))

  pub fraction_not : (length l ≡ 0 → ⊥) → (get_or l 0 0 ≡ 46 → ⊥) → false ≡ fraction l
  unfolding fraction
  fraction_not n m = sym (rw (ne_eqb (length l) 0 n, ne_eqb (get_or l 0 0) 46 m))

  pub fraction_by : (b : Bool) → (length l ≡ 0 → ⊥) → get_or l 0 0 ≡ 46 → b ≡ digits (drop 1 l) → b ≡ fraction l
  unfolding fraction
  fraction_by b n m e = sym (rw (ne_eqb (length l) 0 n, eq-eqb (get_or l 0 0) 46 m, ← e))

  pub unsigned_not : (r : ℕ) → r ≡ run digit l → r ≡ 0 → false ≡ unsigned l
  unfolding unsigned
  unsigned_not r e z = sym (rw (le-ltb 0 (run digit l) (omega arith)))

  pub unsigned_by : (b : Bool) (r : ℕ) → r ≡ run digit l → (r ≡ 0 → ⊥) → b ≡ fraction (drop r l) → b ≡ unsigned l
  unfolding unsigned
  unsigned_by b r e n f = sym (rw (← e, lt-ltb 0 r (omega (arith, n)), ← f))

  pub float_by : (b t : Bool) → t ≡ sign (get_or l 0 0) → (t ≡ true → b ≡ unsigned (drop 1 l)) → (t ≡ false → b ≡ unsigned l) → b ≡ float l
  unfolding float
  float_by b t e f g = go t f g ∙ ap (λ (s : Bool). pick s (unsigned (drop 1 l)) (unsigned l)) e
    where
      go : (s : Bool) → (s ≡ true → b ≡ unsigned (drop 1 l)) → (s ≡ false → b ≡ unsigned l) → b ≡ pick s (unsigned (drop 1 l)) (unsigned l)
      go true f g = f refl
      go false f g = g refl

pub float_none : (l : List ℕ) (b : Bool) → length l ≡ 0 → b ≡ unsigned l → b ≡ float l
unfolding float sign
float_none [] b e h = h
float_none (x ∷ xs) b e h = absurd (omega arith)

pub sign_plus : (b : ℕ) → b ≡ 43 → true ≡ sign b
unfolding sign
sign_plus b e = sym (rw (eq-eqb b 43 e))

pub sign_by : (b : ℕ) → (b ≡ 43 → ⊥) → eqb b 45 ≡ sign b
unfolding sign
sign_by b n = sym (rw (ne_eqb b 43 n))

module _ (m : ℕ) (l : List ℕ) (p : ℕ) (e : p ≡ up_to m l) where
  pub floats_none : p ≡ length l → false ≡ floats m l
  unfolding floats
  floats_none q = sym (rw (← e, le-ltb p (length l) (omega arith)))

  pub floats_not : p < length l → false ≡ float (take p l) → false ≡ floats m l
  unfolding floats
  floats_not h f = sym (rw (← e, lt-ltb p (length l) h, ← f))

  pub floats_by : (b : Bool) → p < length l → true ≡ float (take p l) → b ≡ float (drop (p + 1) l) → b ≡ floats m l
  unfolding floats
  floats_by b h f g = sym (rw (← e, lt-ltb p (length l) h, ← f, ← add-one p, ← g))

eqb_sym : (m n : ℕ) → eqb m n ≡ eqb n m
eqb_sym m n = go (eqb m n) refl
  where
    go : (t : Bool) → eqb m n ≡ t → eqb m n ≡ eqb n m
    go true e = e ∙ sym (eq-eqb n m (sym (eqb-true m n e)))
    go false e = e ∙ sym (ne_eqb n m (λ q. eqb-false m n e (sym q)))

-- the library's test of a list's start
pub scheme_is : (l : List ℕ) → starts_with eqb l (103 ∷ 101 ∷ 111 ∷ 58 ∷ []) ≡ schemed l
unfolding schemed
scheme_is [] = refl
scheme_is (a ∷ []) = ap (λ (t : Bool). t && false) (eqb_sym 103 a)
scheme_is (a ∷ b ∷ []) = rw (eqb_sym 103 a, eqb_sym 101 b) refl
scheme_is (a ∷ b ∷ d ∷ []) = rw (eqb_sym 103 a, eqb_sym 101 b, eqb_sym 111 d) refl
scheme_is (a ∷ b ∷ d ∷ f ∷ xs) = rw (eqb_sym 103 a, eqb_sym 101 b, eqb_sym 111 d, eqb_sym 58 f) (ended (eqb a 103) (eqb b 101) (eqb d 111) (eqb f 58))
  where
    ended : (t u v w : Bool) → (t && (u && (v && (w && true)))) ≡ (t && (u && (v && w)))
    ended true true true true = refl
    ended true true true false = refl
    ended true true false w = refl
    ended true false v w = refl
    ended false u v w = refl

pub nope : {A : Type 0} → false ≡ true → A
nope e = absurd (go e)
  where
    go : false ≡ true → ⊥
    go e = let z : ◌≡◌ {A = ℕ} 0 1 = ap (λ (t : Bool). pick t 1 0) e in omega arith

-- a list with its first mark made another one, written to the start of room
module _ (m o p : ℕ) (s out : List ℕ) (e : p ≡ up_to m s) where
  pub swapped_length : length (swapped m o s) ≡ length s
  unfolding swapped
  swapped_length = length-set s (up_to m s) o

  pub swapped_put : (d : List ℕ) → d ≡ overlay s out → p < length s → set d p o ≡ overlay (swapped m o s) out
  unfolding swapped
  swapped_put d q h =
      ap (λ (l : List ℕ). set l p o) q ∙ set-append_left s (drop (length s) out) p o h
      ∙ rw (e, length-set s (up_to m s) o)

  pub swapped_not : (d : List ℕ) → d ≡ overlay s out → length s ≤ p → d ≡ overlay (swapped m o s) out
  unfolding swapped
  swapped_not d q h =
      let n : set s p o ≡ s = set_out s p o h in
      q ∙ ap (λ (l : List ℕ). overlay l out) (sym n ∙ ap (λ (k : ℕ). set s k o) e)

pub made_new_length : (s : List ℕ) → length s + 4 ≡ length (made_new s)
unfolding made_new swapped octets
made_new_length s = sym (rw (length-append geo_text (set s (up_to 59 s) 44), length-set s (up_to 59 s) 44) (omega arith))

pub made_old_not : (s : List ℕ) → false ≡ schemed s → made_old s ≡ s
unfolding made_old
made_old_not s e = rw (← e)

pub made_old_lem : (s : List ℕ) → true ≡ schemed s → made_old s ≡ swapped 44 59 (drop 4 s)
unfolding made_old
made_old_lem s e = rw (← e)

pub old_length : (s : List ℕ) → length (swapped 44 59 (drop 4 s)) ≡ length s - 4
unfolding swapped
old_length s = length-set (drop 4 s) (up_to 44 (drop 4 s)) 59 ∙ length-drop 4 s

pub new_not : (s : List ℕ) → false ≡ schemed s → false ≡ new_geo s
unfolding new_geo
new_not s e = sym (rw (← e))

pub new_by : (s : List ℕ) (b : Bool) → true ≡ schemed s → b ≡ floats 44 (drop 4 s) → b ≡ new_geo s
unfolding new_geo
new_by s b e f = sym (rw (← e, ← f))
