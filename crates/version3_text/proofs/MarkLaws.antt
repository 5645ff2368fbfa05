-- Octets that are neither a backslash nor a semicolon: a run of them is written as it is and has no bare semicolon. Assumes nothing.
use mathlib.Core.Path.{◌≡◌, refl, sym, ap, ◌∙◌}
use mathlib.Core.Bool.{Bool, true, false, not, ◌&&◌, ◌||◌}
use mathlib.Core.List.{List, [], ◌∷◌, ◌++◌}
use Prim.Native.Nat.{ℕ, suc, ◌+◌, ◌-◌, ◌<◌}
use native.Mathlib.Numerals.{add-one}
use native.Mathlib.Omega.{arith}
use lib.Dec.{eqb}
use lib.Bits.{bit_or}
use lib.ListN.{length, get_or, take, drop}
use lib.Seq.{drop-cons, drop-drop}
use mir.Val.{bool_byte}
use Rattle.octets.specs.Classes.{run, more}
use Rattle.octets.specs.Scan.{gather}
use Rattle.octets.proofs.BitLaws.{byte_no, or_zero_left, or_zero_right}
use Rattle.octets.proofs.Bools.{and_both}
use Rattle.version3_text.specs.Renewed.{pair_at, passed, bare_at, anew, renewed, semicolon_at, semicolons, unmarked}
use Rattle.version3_text.proofs.RenewLaws.{renewed_octet, semicolons_none}

-- a backslash or a semicolon
abbrev pub marked : ℕ → Bool
marked b = eqb b 92 || eqb b 59

pub unmarked_not : (b : ℕ) → unmarked b ≡ not (marked b)
unfolding unmarked
unmarked_not b = go (eqb b 92) (eqb b 59)
  where
    go : (t u : Bool) → (not t && not u) ≡ not (t || u)
    go true u = refl
    go false u = refl

module _ (b : ℕ) where
  unmarked_parts : unmarked b ≡ true → (eqb b 92 ≡ false) × (eqb b 59 ≡ false)
  unfolding unmarked
  unmarked_parts e =
      let h = and_both (not (eqb b 92)) (not (eqb b 59)) e in
      (lower (eqb b 92) h.0, lower (eqb b 59) h.1)
    where
      lower : (t : Bool) → not t ≡ true → t ≡ false
      lower false e = refl
      lower true e = sym e

  -- what a look at the octet adds
  pub looked : (a : ℕ) → bit_or (bit_or a (bool_byte (eqb b 92))) (bool_byte (eqb b 59)) ≡ 0 → (a ≡ 0) × (unmarked b ≡ true)
  unfolding unmarked
  looked a e =
      let l = or_zero_left (bit_or a (bool_byte (eqb b 92))) (bool_byte (eqb b 59)) e in
      let p = byte_no (eqb b 92) (or_zero_right a (bool_byte (eqb b 92)) l) in
      let q = byte_no (eqb b 59) (or_zero_right (bit_or a (bool_byte (eqb b 92))) (bool_byte (eqb b 59)) e) in
      (or_zero_left a (bool_byte (eqb b 92)) l, simp (p, q))

-- one such octet before a list
module _ (x : ℕ) (xs : List ℕ) (e : unmarked x ≡ true) where
  pair_none : pair_at (x ∷ xs) ≡ false
  unfolding pair_at
  pair_none = simp (unmarked_parts x e).0

  passed_one : passed (x ∷ xs) ≡ 1
  unfolding passed
  passed_one = simp pair_none

  bare_none : bare_at (x ∷ xs) ≡ false
  unfolding bare_at
  bare_none = (unmarked_parts x e).1

  anew_one : (w : Bool) → anew w (x ∷ xs) ≡ x ∷ []
  unfolding anew
  anew_one true = simp (pair_none, bare_none)
  anew_one false = simp (pair_none)

  semicolon_none : semicolon_at (x ∷ xs) ≡ []
  unfolding semicolon_at
  semicolon_none = simp (pair_none, bare_none)

  renewed_one : (w : Bool) → renewed w (x ∷ xs) ≡ x ∷ renewed w xs
  unfolding renewed gather
  renewed_one w = rw (anew_one w, passed_one)

  semicolons_one : semicolons (x ∷ xs) ≡ semicolons xs
  unfolding semicolons gather
  semicolons_one = rw (semicolon_none, passed_one)

kept_by : (w : Bool) (x : ℕ) (xs : List ℕ) (t : Bool) → unmarked x ≡ t → renewed w xs ≡ take (run unmarked xs) xs ++ renewed w (drop (run unmarked xs) xs)
    → renewed w (x ∷ xs) ≡ take (more t (run unmarked xs)) (x ∷ xs) ++ renewed w (drop (more t (run unmarked xs)) (x ∷ xs))
kept_by w x xs true e h = renewed_one x xs e w ∙ ap (λ (l : List ℕ). x ∷ l) h
kept_by w x xs false e h = refl

kept : (w : Bool) (l : List ℕ) → renewed w l ≡ take (run unmarked l) l ++ renewed w (drop (run unmarked l) l)
unfolding run
kept w [] = refl
kept w (x ∷ xs) = kept_by w x xs (unmarked x) refl (kept w xs)

bare_by : (x : ℕ) (xs : List ℕ) (t : Bool) → unmarked x ≡ t → semicolons xs ≡ semicolons (drop (run unmarked xs) xs)
    → semicolons (x ∷ xs) ≡ semicolons (drop (more t (run unmarked xs)) (x ∷ xs))
bare_by x xs true e h = semicolons_one x xs e ∙ h
bare_by x xs false e h = refl

bare : (l : List ℕ) → semicolons l ≡ semicolons (drop (run unmarked l) l)
unfolding run
bare [] = refl
bare (x ∷ xs) = bare_by x xs (unmarked x) refl (bare xs)

-- an octet that stands for itself, and those up to the next mark
module _ (s : List ℕ) (i : ℕ) (h : i < length s) (e : pair_at (drop i s) ≡ false) (t : ℕ) (q : t ≡ (i + 1) + run unmarked (drop (i + 1) s)) where
  abbrev n : ℕ
  n = run unmarked (drop (i + 1) s)

  abbrev x : ℕ
  x = get_or s i 0

  rest : drop n (drop (i + 1) s) ≡ drop t s
  rest = drop-drop n (i + 1) s ∙ ap (λ (k : ℕ). drop k s) (sym q)

  front : x ∷ take n (drop (i + 1) s) ≡ take (t - i) (drop i s)
  front =
      let d : drop i s ≡ x ∷ drop (i + 1) s = drop-cons s i 0 h ∙ ap (λ (k : ℕ). x ∷ drop k s) (sym (add-one i)) in
      let k : t - i ≡ suc n = omega (arith, q) in
      sym (ap (λ (m : ℕ). take m (drop i s)) k ∙ ap (take (suc n)) d)

  pub renewed_run : (w : Bool) → (w && eqb (get_or s i 0) 59) ≡ false → renewed w (drop i s) ≡ take (t - i) (drop i s) ++ renewed w (drop t s)
  renewed_run w z =
      renewed_octet s i h e w z
      ∙ ap (λ (l : List ℕ). x ∷ l) (kept w (drop (i + 1) s))
      ∙ ap (λ (l : List ℕ). (x ∷ take n (drop (i + 1) s)) ++ renewed w l) rest
      ∙ ap (λ (l : List ℕ). l ++ renewed w (drop t s)) front

  pub semicolons_run : (get_or s i 0 ≡ 59 → ⊥) → semicolons (drop i s) ≡ semicolons (drop t s)
  semicolons_run z = semicolons_none s i h e z ∙ bare (drop (i + 1) s) ∙ ap semicolons rest
