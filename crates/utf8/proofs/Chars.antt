-- The laws of `char_length`, `unit` and `first_bad` at a place of a list. Assumes nothing.
use mathlib.Core.Path.{◌≡◌, refl, sym, ◌∙◌}
use mathlib.Core.Bool.{Bool, true, false, not, ◌&&◌, ◌||◌, and-false}
use mathlib.Core.List.{List}
use Prim.Native.Nat.{ℕ, ◌+◌, ◌-◌, ◌<◌, ◌≤◌}
use native.Mathlib.Nat.{add-zero}
use native.Mathlib.Omega.{arith}
use lib.Dec.{leb, ltb}
use lib.ListN.{length, get_or, drop, length-drop}
use lib.Seq.{get_or-drop}
use borrow.Author.Tests.{not-true, not-false, lt-ltb, le-leb, leb-true, eq-eqb, ne_eqb}
use Rattle.utf8.specs.Characters.{length_by, second, tail, rest, char_length, allowed, unit, first_bad}
use Rattle.octets.specs.Pick.{pick}
use Rattle.octets.specs.Classes.{has, value_mask}
use Rattle.octets.proofs.Masks.{has_valued}
use Rattle.octets.proofs.Scans.{scan_stop, scan_step, scan_end, scan_le}

-- `char_length` of a list of k octets that starts with b, c, d and e, where n is the length by b
abbrev pub shape : ℕ → ℕ → ℕ → ℕ → ℕ → ℕ → ℕ
shape n k b c d e = pick (leb n k && ((ltb n 2 || second b c) && ((ltb n 3 || tail d) && (ltb n 4 || tail e)))) n 0

pub char_at : (s : List ℕ) (i n : ℕ) → n ≡ length_by (get_or s i 0)
    → char_length (drop i s) ≡ shape n (length s - i) (get_or s i 0) (get_or s (i + 1) 0) (get_or s (i + 2) 0) (get_or s (i + 3) 0)
unfolding char_length rest
char_at s i n e = simp (get_or-drop, length-drop, add-zero, sym e)

-- a flag that a call answered, and what a test on it says
pub is_not : (r f : Bool) → r ≡ f → not r ≡ true → f ≡ false
is_not r f e t = sym e ∙ not-true r t

pub is_so : (r f : Bool) → r ≡ f → not r ≡ false → f ≡ true
is_so r f e t = sym e ∙ not-false r t

module _ (s : List ℕ) (i : ℕ) where
  pub ascii : i < length s → get_or s i 0 < 128 → char_length (drop i s) ≡ 1
  unfolding length_by
  ascii h b = char_at s i 1 (simp (lt-ltb _ _ b)) ∙ simp (le-leb 1 (length s - i) (omega arith))

  -- an octet of a value is allowed, LF where lf is set, and nothing else
  pub unit_yes : (lf : Bool) → has value_mask (get_or s i 0) ≡ true → unit (allowed lf) (drop i s) ≡ char_length (drop i s)
  unfolding unit allowed
  unit_yes lf e = simp (get_or-drop, add-zero, sym (has_valued (get_or s i 0)), e)

  pub unit_lf : has value_mask (get_or s i 0) ≡ false → get_or s i 0 ≡ 10 → unit (allowed true) (drop i s) ≡ char_length (drop i s)
  unfolding unit allowed
  unit_lf e q = simp (get_or-drop, add-zero, sym (has_valued (get_or s i 0)), e, eq-eqb (get_or s i 0) 10 q)

  pub unit_no_lf : has value_mask (get_or s i 0) ≡ false → unit (allowed false) (drop i s) ≡ 0
  unfolding unit allowed
  unit_no_lf e = simp (get_or-drop, add-zero, sym (has_valued (get_or s i 0)), e)

  pub unit_not : (lf : Bool) → has value_mask (get_or s i 0) ≡ false → (get_or s i 0 ≡ 10 → ⊥) → unit (allowed lf) (drop i s) ≡ 0
  unfolding unit allowed
  unit_not lf e q = simp (get_or-drop, add-zero, sym (has_valued (get_or s i 0)), e, ne_eqb (get_or s i 0) 10 q, and-false)

pick_le : (a r : Bool) (n k : ℕ) → leb n k ≡ a → pick (a && r) n 0 ≤ k
pick_le true true n k e = leb-true n k e
pick_le true false n k e = omega arith
pick_le false r n k e = omega arith

pick_zero_le : (v : Bool) (n k : ℕ) → n ≤ k → pick v n 0 ≤ k
pick_zero_le true n k h = h
pick_zero_le false n k h = omega arith

pub char_fits : (l : List ℕ) → char_length l ≤ length l
unfolding char_length
char_fits l = pick_le (leb (length_by (get_or l 0 0)) (length l)) (rest (length_by (get_or l 0 0)) l) (length_by (get_or l 0 0)) (length l) refl

module _ (p : ℕ → Bool) where
  pub unit_fits : (l : List ℕ) → unit p l ≤ length l
  unfolding unit
  unit_fits l = pick_zero_le (p (get_or l 0 0)) (char_length l) (length l) (char_fits l)

  module _ (s : List ℕ) (i : ℕ) where
    pub unit_inside : (n : ℕ) → n ≡ unit p (drop i s) → i ≤ length s → i + n ≤ length s
    unit_inside n e h = let f : n ≤ length s - i = rw (e, sym (length-drop i s)) (unit_fits (drop i s)) in omega arith

    pub bad_stop : unit p (drop i s) ≡ 0 → i + first_bad p (drop i s) ≡ i
    unfolding first_bad
    bad_stop e = scan_stop (unit p) s i e

    pub bad_step : (n : ℕ) → n ≡ unit p (drop i s) → (n ≡ 0 → ⊥) → i ≤ length s
        → i + first_bad p (drop i s) ≡ (i + n) + first_bad p (drop (i + n) s)
    unfolding first_bad
    bad_step n e nz h = scan_step (unit p) s i n (sym e) (omega arith) (unit_inside n e h)

    pub bad_end : length s ≤ i → i + first_bad p (drop i s) ≡ i
    unfolding first_bad
    bad_end h = scan_end (unit p) s i h

  -- the answer is never past the end
  pub bad_le : (l : List ℕ) → first_bad p l ≤ length l
  unfolding first_bad
  bad_le l = scan_le (unit p) l 0
