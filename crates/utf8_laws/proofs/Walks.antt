-- A text as its longest run of allowed characters and what follows, and where `first_bad` stops. Assumes nothing.
use Prim.Native.Nat.{ℕ, zero, suc, ◌+◌, ◌≤◌}
use mathlib.Core.Path.{◌≡◌, refl, sym, ap, ◌∙◌, subst}
use mathlib.Core.Bool.{Bool, true, or-true}
use mathlib.Core.List.{List, [], ◌∷◌, ◌++◌, append_assoc}
use native.Mathlib.Nat.{zero-add, add-zero}
use native.Mathlib.Omega.{arith}
use lib.Dec.{leb}
use lib.ListN.{length, get_or, take, drop, length-append, take-append-drop, get_or-append}
use lib.Seq.{drop-append_seam, take_at, drop_at, length-take-le}
use borrow.Author.Tests.{leb-true, le-leb}
use Rattle.octets.specs.Classes.{valued}
use Rattle.utf8.specs.Characters.{char_length, allowed, unit, first_bad}
use Rattle.utf8.specs.Rfc3629.{Character, Characters}
use Rattle.utf8.proofs.Chars.{unit_fits, bad_stop, bad_step, bad_le}
use Rattle.utf8_laws.specs.Texts.{Begins, Text, none, more, Stops, Each}
use Rattle.utf8_laws.proofs.Starts.{pick_suc, char_found, char_length_lem, char_parts}

-- a character that begins a list has the length that `char_length` gives
pub begins : (l c : List ℕ) → Begins l c → char_length l ≡ length c
begins l c g = ap char_length g.1.1 ∙ char_length_lem c g.1.0 g.0

-- the first octet of a character is that of the text it begins
first_octet : (l c : List ℕ) → Begins l c → get_or l 0 0 ≡ get_or c 0 0
first_octet l c g =
    ap (λ (t : List ℕ). get_or t 0 0) g.1.1 ∙ get_or-append c g.1.0 0 0 (char_parts c g.0).0

module _ (p : ℕ → Bool) where
  -- `unit` at an allowed character, and back
  unit_begins : (l c : List ℕ) → Begins l c → p (get_or c 0 0) ≡ true → unit p l ≡ length c
  unfolding unit
  unit_begins l c g ok = simp (first_octet l c g, ok) (begins l c g)

  unit_found : (l : List ℕ) (n : ℕ) → unit p l ≡ suc n → (c : List ℕ) × Begins l c × (p (get_or c 0 0) ≡ true)
  unfolding unit
  unit_found l n e =
      let q = pick_suc (p (get_or l 0 0)) (char_length l) n e in
      let f = char_found l n q.1 in
      (f.0, f.1, ap p (sym (first_octet l f.0 f.1)) ∙ q.0)

  -- `unit` is 0 exactly where no allowed character begins
  pub stops_zero : (l : List ℕ) → Stops p l → unit p l ≡ 0
  stops_zero l s = by (unit p l) refl
    where
      by : (n : ℕ) → unit p l ≡ n → unit p l ≡ 0
      by zero e = e
      by (suc n) e = let f = unit_found l n e in absurd (s f.0 f.1 f.2)

  zero_stops : (l : List ℕ) → unit p l ≡ 0 → Stops p l
  zero_stops l e c g ok = omega (arith, unit_begins l c g ok, (char_parts c g.0).0)

  pub bad_none : (l : List ℕ) → unit p l ≡ 0 → first_bad p l ≡ 0
  bad_none l e = rw zero-add at (bad_stop p l 0 e)

  bad_more : (c r : List ℕ) → Character c → p (get_or c 0 0) ≡ true → first_bad p (c ++ r) ≡ length c + first_bad p r
  bad_more c r h ok =
      let u = unit_begins (c ++ r) c (h, (r, refl)) ok in
      let n = (char_parts c h).0 in
      simp (zero-add, drop-append_seam) at (bad_step p (c ++ r) 0 (length c) (sym u) (omega arith) (omega arith))

  -- a text of allowed characters is passed whole
  pub text_passed : (a b : List ℕ) → Text p a → first_bad p (a ++ b) ≡ length a + first_bad p b
  text_passed _ b none = sym (zero-add (first_bad p b))
  text_passed _ b (more {c = c} {l = l} h ok t) =
      let e = ap (first_bad p) (append_assoc c l b) ∙ bad_more c (l ++ b) h ok in
      omega (arith, e, text_passed l b t, length-append c l)

  -- the allowed characters that a text starts with, and what follows
  record Split (l : List ℕ) : Type 0 where
    passed : List ℕ
    left : List ℕ
    whole : l ≡ passed ++ left
    text : Text p passed
    stop : unit p left ≡ 0

  split_in : (k : ℕ) (l : List ℕ) → length l ≤ k → Split l
  split_in zero l h = record { passed = []; left = l; whole = refl; text = none; stop = omega (arith, unit_fits p l) }
  split_in (suc k) l h = by (unit p l) refl (split_in k)
    where
      by : (n : ℕ) → unit p l ≡ n → ((r : List ℕ) → length r ≤ k → Split r) → Split l
      by zero e ih = record { passed = []; left = l; whole = refl; text = none; stop = e }
      by (suc n) e ih =
          let f = unit_found l n e in
          let c = f.0 in
          let r = f.1.1.0 in
          let w : l ≡ c ++ r = f.1.1.1 in
          let s = ih r (omega (arith, ap length w ∙ length-append c r, (char_parts c f.1.0).0)) in
          record {
            passed = c ++ s.passed;
            left = s.left;
            whole = w ∙ ap (λ (t : List ℕ). c ++ t) s.whole ∙ sym (append_assoc c s.passed s.left);
            text = more f.1.0 f.2 s.text;
            stop = s.stop;
          }

  split : (l : List ℕ) → Split l
  split l = split_in (length l) l (omega arith)

  split_place : (l : List ℕ) (s : Split l) → first_bad p l ≡ length s.passed
  split_place l s =
      ap (first_bad p) s.whole ∙ text_passed s.passed s.left s.text
      ∙ ap (λ (n : ℕ). length s.passed + n) (bad_none s.left s.stop) ∙ add-zero (length s.passed)

  -- what stands before the place, and what begins at it
  pub place_parts : (l : List ℕ) (k : ℕ) → first_bad p l ≡ k → (k ≤ length l) × Text p (take k l) × Stops p (drop k l)
  place_parts l k e =
      let s = split l in
      let n = sym (split_place l s) ∙ e in (
        omega (arith, bad_le p l),
        rw (ap (take k) s.whole ∙ take_at s.passed s.left k n) s.text,
        subst (Stops p) (sym (ap (drop k) s.whole ∙ drop_at s.passed s.left k n)) (zero_stops s.left s.stop),
      )

  -- past a prefix of allowed characters
  pub past_prefix : (l : List ℕ) (k : ℕ) → k ≤ length l → Text p (take k l) → first_bad p l ≡ k + first_bad p (drop k l)
  past_prefix l k h t =
      ap (first_bad p) (sym (take-append-drop k l)) ∙ text_passed (take k l) (drop k l) t
      ∙ ap (λ (n : ℕ). n + first_bad p (drop k l)) (length-take-le k l h)

  each_append : (a b : List ℕ) → Each p a → Each p b → Each p (a ++ b)
  unfolding Each
  each_append [] b g h = h
  each_append (x ∷ xs) b g h = (g.0, each_append xs b g.1 h)

  each_cut : (a b : List ℕ) → Each p (a ++ b) → Each p a × Each p b
  unfolding Each
  each_cut [] b g = (tt, g)
  each_cut (x ∷ xs) b g = let h = each_cut xs b g.1 in ((g.0, h.0), h.1)

  each_first : (c : List ℕ) → Character c → Each p c → p (get_or c 0 0) ≡ true
  unfolding Each
  each_first [] h g = absurd (omega (arith, (char_parts [] h).0))
  each_first (x ∷ xs) h g = g.0

  -- characters whose octets are allowed are a text of allowed characters
  pub text_of : (l : List ℕ) → Characters l → Each p l → Text p l
  text_of _ Characters.none g = none
  text_of _ (Characters.more {c = c} {l = l} h t) g =
      let e = each_cut c l g in
      more h (each_first c h e.0) (text_of l t e.1)

  pub text_characters : (l : List ℕ) → Text p l → Characters l
  text_characters _ none = Characters.none
  text_characters _ (more {c = c} {l = l} h ok t) = Characters.more h (text_characters l t)

  -- where p allows the octets from 80 on, a text of allowed characters has allowed octets only
  module _ (high : (b : ℕ) → 0x80 ≤ b → p b ≡ true) where
    each_high : (l : List ℕ) → Each (leb 0x80) l → Each p l
    unfolding Each
    each_high [] g = tt
    each_high (x ∷ xs) g = (high x (leb-true 0x80 x g.0), each_high xs g.1)

    each_char : (c : List ℕ) → Character c → p (get_or c 0 0) ≡ true → Each p c
    unfolding Each
    each_char [] h ok = tt
    each_char (x ∷ xs) h ok = (ok, each_high xs (char_parts (x ∷ xs) h).1)

    pub text_each : (l : List ℕ) → Text p l → Each p l
    unfolding Each
    text_each _ none = tt
    text_each _ (more {c = c} {l = l} h ok t) = each_append c l (each_char c h ok) (text_each l t)

-- 80 and above are allowed
pub allowed_high : (lf : Bool) (b : ℕ) → 0x80 ≤ b → allowed lf b ≡ true
unfolding allowed valued
allowed_high lf b h = simp (le-leb 0x80 b h, or-true)
