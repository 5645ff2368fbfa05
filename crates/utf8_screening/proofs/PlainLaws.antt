-- The laws of plain octets. Assumes nothing.
use mathlib.Core.Path.{◌≡◌, refl, sym, ap, ◌∙◌}
use mathlib.Core.Bool.{Bool, true, false, not, ◌&&◌, ◌||◌, and-true, and-false, and_assoc, or-true}
use mathlib.Core.List.{List, [], ◌∷◌, ◌++◌}
use Prim.Native.Nat.{ℕ, suc, ◌+◌, ◌-◌, ◌<◌, ◌≤◌, zero}
use native.Mathlib.Numerals.{add-one}
use native.Mathlib.Omega.{arith}
use lib.Dec.{eqb, ltb}
use lib.Bits.{bit_or}
use lib.ListN.{length, get_or, take, drop, drop_of_length-le, length-drop, take-append-drop}
use Rattle.std.specs.List.{list_all}
use lib.Seq.{drop-cons, drop-drop, length-take-le, take_all}
use native.Mathlib.Nat.{zero-add, add-zero, suc-add}
use borrow.Author.Tests.{ne_eqb, eqb-true, ltb-false, lt-ltb, le-ltb, le-leb}
use Rattle.octets.specs.Classes.{bit, has, valued, value_mask}
use Rattle.octets.proofs.Masks.{has_valued}
use Rattle.octets.proofs.Marks.{mark_step}
use Rattle.octets.specs.Scan.{after, scan}
use Rattle.octets.proofs.Bools.{clash, by, and_both}
use Rattle.utf8.proofs.Chars.{ascii, char_at, unit_yes, unit_inside, bad_step}
use Rattle.utf8.specs.Characters.{length_by, second, tail, allowed, unit, first_bad}
use Rattle.utf8_screening.specs.Plain.{odd, all_plain, Strides, Easy, Reached}

module _ (s : List ℕ) (i : ℕ) where
  plain_at : i < length s → all_plain (drop i s) ≡ (not (odd (get_or s i 0)) && all_plain (drop (i + 1) s))
  unfolding all_plain
  plain_at h = rw (add-one, drop-cons s i 0)

  pub plain_step : i < length s → (a x : ℕ) → x ≡ bit (odd (get_or s i 0)) 1
      → (eqb a 0 && all_plain (drop i s)) ≡ (eqb (bit_or a x) 0 && all_plain (drop (i + 1) s))
  plain_step h a x e =
      ap (λ (t : Bool). eqb a 0 && t) (plain_at h) ∙ mark_step a x (odd (get_or s i 0)) (all_plain (drop (i + 1) s)) e

  pub plain_end : length s ≤ i → (a : ℕ) → (eqb a 0 && all_plain (drop i s)) ≡ eqb a 0
  unfolding all_plain
  plain_end h a = rw (drop_of_length-le s h, and-true)

-- a text is plain where its first n octets and the others are
plain_append : (a b : List ℕ) → all_plain (a ++ b) ≡ (all_plain a && all_plain b)
unfolding all_plain
plain_append [] b = refl
plain_append (x ∷ xs) b = ap (λ (t : Bool). not (odd x) && t) (plain_append xs b) ∙ sym (and_assoc (not (odd x)) (all_plain xs) (all_plain b))

plain_cut : (n : ℕ) (s : List ℕ) → all_plain s ≡ (all_plain (take n s) && all_plain (drop n s))
plain_cut n s = ap all_plain (sym (take-append-drop n s)) ∙ plain_append (take n s) (drop n s)

module _ (s : List ℕ) (i n : ℕ) where
  plain_cut_at : all_plain (drop i s) ≡ (all_plain (take n (drop i s)) && all_plain (drop (i + n) s))
  plain_cut_at = rw (← drop-drop n i s) (plain_cut n (drop i s))

  pub plain_pass : all_plain (take n (drop i s)) ≡ true → all_plain (drop i s) ≡ all_plain (drop (i + n) s)
  plain_pass e = plain_cut_at ∙ ap (λ (t : Bool). t && all_plain (drop (i + n) s)) e

  pub plain_fail : all_plain (take n (drop i s)) ≡ false → all_plain (drop i s) ≡ false
  plain_fail e = plain_cut_at ∙ ap (λ (t : Bool). t && all_plain (drop (i + n) s)) e

-- where the octets before i are plain, a look at the octets from j on may begin before i
plain_back : (s : List ℕ) (j i : ℕ) → j ≤ i → all_plain s ≡ all_plain (drop i s) → all_plain s ≡ all_plain (drop j s)
plain_back s j i h e = by (all_plain s) (λ t. t ∙ sym (and_both (all_plain (take j s)) (all_plain (drop j s)) (sym (plain_cut j s) ∙ t)).1) (λ f. f ∙ sym (unplain (sym e ∙ f)))
  where
    k : j + (i - j) ≡ i
    k = omega arith

    unplain : all_plain (drop i s) ≡ false → all_plain (drop j s) ≡ false
    unplain f =
        plain_cut_at s j (i - j) ∙ ap (λ (m : ℕ). all_plain (take (i - j) (drop j s)) && all_plain (drop m s)) k
        ∙ ap (λ (t : Bool). all_plain (take (i - j) (drop j s)) && t) f ∙ and-false (all_plain (take (i - j) (drop j s)))

-- so the last look may be at the last n octets
pub plain_last : (s : List ℕ) (j n i : ℕ) → length s ≤ j + n → j ≤ i → all_plain s ≡ all_plain (drop i s)
    → all_plain (take n (drop j s)) ≡ all_plain s
plain_last s j n i l h e =
    let d : length (drop j s) ≤ n = rw (length-drop j s) (omega arith) in
    ap all_plain (take_all n (drop j s) d) ∙ sym (plain_back s j i h e)

-- that each octet passes the test, as the library says it
pub plain_is : (s : List ℕ) → list_all (λ b. not (odd b)) s ≡ all_plain s
unfolding all_plain
plain_is [] = refl
plain_is (x ∷ xs) = ap (λ (t : Bool). not (odd x) && t) (plain_is xs)

-- the mark of an octet is 0 where the octet is plain
pub mark_none : (r x : ℕ) → r ≡ bit (odd x) 1 → eqb r 0 ≡ not (odd x)
mark_none r x e = ap (λ (n : ℕ). eqb n 0) e ∙ by (odd x)
  where
    by : (t : Bool) → eqb (bit t 1) 0 ≡ not t
    by true = refl
    by false = refl

-- plain text has no octet that is not allowed
plain_octet : (x : ℕ) → odd x ≡ false → (x < 127) × (valued x ≡ true)
unfolding odd valued
plain_octet x e = by (ltb 126 x) (ltb x 32) (eqb x 9) refl refl refl e
  where
    by : (a b n : Bool) → ltb 126 x ≡ a → ltb x 32 ≡ b → eqb x 9 ≡ n → (a || (b && not n)) ≡ false
        → (x < 127) × (valued x ≡ true)
    by true b n p q r z = clash cc
    by false true true p q r z = (omega (arith, eqb-true x 9 r), simp r)
    by false true false p q r z = clash cc
    by false false n p q r z =
        let h = ltb-false 126 x p in
        let g = ltb-false x 32 q in
        (omega arith, simp (le-leb 32 x g, le-leb x 126 h, or-true))

plain_unit : (lf : Bool) (x : ℕ) (xs : List ℕ) → odd x ≡ false → unit (allowed lf) (x ∷ xs) ≡ 1
unfolding unit allowed
plain_unit lf x xs e =
    let o = plain_octet x e in
    simp o.1 (ascii (x ∷ xs) 0 (omega arith) (omega arith))

-- a plain octet, and a character of two octets
module _ (s : List ℕ) (i : ℕ) where
  pub unit_plain : (r : ℕ) → r ≡ bit (odd (get_or s i 0)) 1 → i < length s → r ≡ 0 → (lf : Bool) → unit (allowed lf) (drop i s) ≡ 1
  unit_plain r e h z lf = by (odd (get_or s i 0)) refl (sym e ∙ z)
    where
      by : (o : Bool) → odd (get_or s i 0) ≡ o → bit o 1 ≡ 0 → unit (allowed lf) (drop i s) ≡ 1
      by true q w = absurd (omega arith)
      by false q w = rw (drop-cons s i 0 h) (plain_unit lf (get_or s i 0) (drop (suc i) s) q)

  module _ (lo : 0xc2 ≤ get_or s i 0) (hi : get_or s i 0 ≤ 0xdf) where
    two_long : 2 ≡ length_by (get_or s i 0)
    unfolding length_by
    two_long = simp (le-ltb (get_or s i 0) 0x80 (omega arith), le-ltb (get_or s i 0) 0xc2 lo, lt-ltb (get_or s i 0) 0xe0 (omega arith))

    two_second : (c : ℕ) → second (get_or s i 0) c ≡ tail c
    unfolding second tail
    two_second c =
        simp (ne_eqb (get_or s i 0) 0xe0 (λ e. omega arith), ne_eqb (get_or s i 0) 0xed (λ e. omega arith), ne_eqb (get_or s i 0) 0xf0 (λ e. omega arith), ne_eqb (get_or s i 0) 0xf4 (λ e. omega arith))

    high : has value_mask (get_or s i 0) ≡ true
    unfolding valued
    high = has_valued (get_or s i 0) ∙ simp (le-leb 128 (get_or s i 0) (omega arith), or-true)

    pub unit_two : i + 2 ≤ length s → tail (get_or s (i + 1) 0) ≡ true → (lf : Bool) → unit (allowed lf) (drop i s) ≡ 2
    unit_two h t lf =
        unit_yes s i lf high
        ∙ char_at s i 2 two_long
        ∙ simp (le-leb 2 (length s - i) (omega arith), two_second (get_or s (i + 1) 0), t)

pub plain_all : (lf : Bool) (s : List ℕ) → all_plain s ≡ true → first_bad (allowed lf) s ≡ length s
unfolding all_plain first_bad scan
plain_all lf [] e = refl
plain_all lf (x ∷ xs) e = by (odd x) refl e (plain_all lf xs)
  where
    by : (o : Bool) → odd x ≡ o → (not o && all_plain xs) ≡ true
        → (all_plain xs ≡ true → scan (unit (allowed lf)) xs 0 ≡ length xs) → scan (unit (allowed lf)) (x ∷ xs) 0 ≡ suc (length xs)
    by true o z f = clash cc
    by false o z f = ap (λ (n : ℕ). after n (scan (unit (allowed lf)) xs)) (plain_unit lf x xs o) ∙ ap suc (f z)

-- plain octets at the start are passed at once
plain_prefix : (lf : Bool) (a b : List ℕ) → all_plain a ≡ true → first_bad (allowed lf) (a ++ b) ≡ length a + first_bad (allowed lf) b
unfolding all_plain first_bad scan
plain_prefix lf [] b e = sym (zero-add _)
plain_prefix lf (x ∷ xs) b e = by (odd x) refl e (plain_prefix lf xs b)
  where
    by : (o : Bool) → odd x ≡ o → (not o && all_plain xs) ≡ true
        → (all_plain xs ≡ true → scan (unit (allowed lf)) (xs ++ b) 0 ≡ length xs + scan (unit (allowed lf)) b 0)
        → scan (unit (allowed lf)) (x ∷ (xs ++ b)) 0 ≡ suc (length xs) + scan (unit (allowed lf)) b 0
    by true o z f = clash cc
    by false o z f =
        ap (λ (n : ℕ). after n (scan (unit (allowed lf)) (xs ++ b))) (plain_unit lf x (xs ++ b) o) ∙ ap suc (f z)
        ∙ sym (suc-add (length xs) (scan (unit (allowed lf)) b 0))

pub plain_stride : (lf : Bool) (s : List ℕ) (i n : ℕ) → 0 < n → i + n ≤ length s → all_plain (take n (drop i s)) ≡ true → Strides (allowed lf) s i n
plain_stride lf s i n some h e =
    let d : n ≤ length (drop i s) = rw (length-drop i s) (omega arith) in
    let split = ap (first_bad (allowed lf)) (sym (take-append-drop n (drop i s))) ∙ plain_prefix lf (take n (drop i s)) (drop n (drop i s)) e in
    let k = length-take-le n (drop i s) d in
    let f : first_bad (allowed lf) (drop i s) ≡ n + first_bad (allowed lf) (drop (i + n) s) = rw (← drop-drop n i s) (split ∙ ap (λ (m : ℕ). m + first_bad (allowed lf) (drop n (drop i s))) k) in
    record { stops = λ z. absurd (omega arith); goes = omega arith; inside = h }

pub unit_stride : (lf : Bool) (s : List ℕ) (i n : ℕ) → i < length s → n ≡ unit (allowed lf) (drop i s) → Strides (allowed lf) s i n
unit_stride lf s i n h e = record { stops = λ z. sym e ∙ z; goes = by n e; inside = unit_inside (allowed lf) s i n e (omega arith) }
  where
    by : (m : ℕ) → m ≡ unit (allowed lf) (drop i s) → i + first_bad (allowed lf) (drop i s) ≡ i + m + first_bad (allowed lf) (drop (i + m) s)
    by zero q = ap (λ (j : ℕ). j + first_bad (allowed lf) (drop j s)) (sym (add-zero i))
    by (suc m) q = bad_step (allowed lf) s i (suc m) q (λ z. omega arith) (omega arith)

-- an easy character reaches further
pub reach_step : (s : List ℕ) (i n : ℕ) → i < length s → Reached s i → Easy s i n → (n ≡ 0 → ⊥) → Reached s (i + n)
reach_step s i n h r e z =
    let k : (lf : Bool) → Strides (allowed lf) s i n = λ lf. unit_stride lf s i n h (e.whole lf z) in
    record { goes = λ lf. r.goes lf ∙ (k lf).goes; inside = (k false).inside }
