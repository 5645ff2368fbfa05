-- Text escaped anew at a place of a list: what starts there, what is written for it, and whether it is a bare semicolon. Assumes nothing.
use mathlib.Core.Path.{◌≡◌, sym, ap, ◌∙◌}
use mathlib.Core.Bool.{Bool, true, false, ◌&&◌}
use mathlib.Core.List.{List, [], ◌∷◌, ◌++◌}
use Prim.Native.Nat.{ℕ, ◌+◌, ◌-◌, ◌<◌, ◌≤◌}
use native.Mathlib.Nat.{add-zero}
use native.Mathlib.Omega.{arith}
use lib.Dec.{eqb, ltb}
use lib.ListN.{length, get_or, drop, length-drop}
use lib.Seq.{get_or-drop}
use borrow.Author.Tests.{ltb-true, eq-eqb, ne_eqb}
use Rattle.octets.proofs.Bools.{and_both}
use Rattle.octets.proofs.Scans.{gather_step, gather_end}
use Rattle.version3_text.specs.Renewed.{pair_at, small, passed, bare_at, anew, renewed, semicolon_at, semicolons}

module _ (s : List ℕ) (i : ℕ) where
  pub pair_eq : pair_at (drop i s) ≡ (eqb (get_or s i 0) 92 && ltb 1 (length s - i))
  unfolding pair_at
  pair_eq = simp (get_or-drop, add-zero, length-drop)

  pub pair_not : (get_or s i 0 ≡ 92 → ⊥) → false ≡ pair_at (drop i s)
  pair_not n = sym (pair_eq ∙ simp (ne_eqb (get_or s i 0) 92 n))

  pub pair_by : get_or s i 0 ≡ 92 → ltb 1 (length s - i) ≡ pair_at (drop i s)
  pair_by q = sym (pair_eq ∙ simp (eq-eqb (get_or s i 0) 92 q))

  pub pair_inside : pair_at (drop i s) ≡ true → i + 2 ≤ length s
  pair_inside e = omega (arith, ltb-true 1 (length s - i) (and_both (eqb (get_or s i 0) 92) (ltb 1 (length s - i)) (sym pair_eq ∙ e)).1)

  -- a backslash and the octet after it
  module _ (h : i < length s) (e : pair_at (drop i s) ≡ true) where
    passed_pair : passed (drop i s) ≡ 2
    unfolding passed
    passed_pair = simp e

    anew_pair : (w : Bool) → anew w (drop i s) ≡ 92 ∷ small (get_or s (i + 1) 0) ∷ []
    unfolding anew
    anew_pair w = simp (e, get_or-drop)

    none_pair : semicolon_at (drop i s) ≡ []
    unfolding semicolon_at
    none_pair = simp e

    pub renewed_pair : (w : Bool) → renewed w (drop i s) ≡ (92 ∷ small (get_or s (i + 1) 0) ∷ []) ++ renewed w (drop (i + 2) s)
    unfolding renewed
    renewed_pair w = gather_step passed (anew w) s i 2 h passed_pair (omega arith) ∙ ap (λ (l : List ℕ). l ++ renewed w (drop (i + 2) s)) (anew_pair w)

    pub semicolons_pair : semicolons (drop i s) ≡ semicolons (drop (i + 2) s)
    unfolding semicolons
    semicolons_pair = gather_step passed semicolon_at s i 2 h passed_pair (omega arith) ∙ ap (λ (l : List ℕ). l ++ semicolons (drop (i + 2) s)) none_pair

  -- any other octet
  module _ (h : i < length s) (e : pair_at (drop i s) ≡ false) where
    passed_octet : passed (drop i s) ≡ 1
    unfolding passed
    passed_octet = simp e

    bare_eq : bare_at (drop i s) ≡ eqb (get_or s i 0) 59
    unfolding bare_at
    bare_eq = simp (get_or-drop, add-zero)

    anew_mark : (w : Bool) → (w && eqb (get_or s i 0) 59) ≡ true → anew w (drop i s) ≡ 92 ∷ 59 ∷ []
    unfolding anew
    anew_mark w q = simp (e, bare_eq, q)

    anew_octet : (w : Bool) → (w && eqb (get_or s i 0) 59) ≡ false → anew w (drop i s) ≡ get_or s i 0 ∷ []
    unfolding anew
    anew_octet w q = simp (e, bare_eq, q, get_or-drop, add-zero)

    pub renewed_mark : (w : Bool) → (w && eqb (get_or s i 0) 59) ≡ true → renewed w (drop i s) ≡ (92 ∷ 59 ∷ []) ++ renewed w (drop (i + 1) s)
    unfolding renewed
    renewed_mark w q = gather_step passed (anew w) s i 1 h passed_octet (omega arith) ∙ ap (λ (l : List ℕ). l ++ renewed w (drop (i + 1) s)) (anew_mark w q)

    pub renewed_octet : (w : Bool) → (w && eqb (get_or s i 0) 59) ≡ false → renewed w (drop i s) ≡ (get_or s i 0 ∷ []) ++ renewed w (drop (i + 1) s)
    unfolding renewed
    renewed_octet w q = gather_step passed (anew w) s i 1 h passed_octet (omega arith) ∙ ap (λ (l : List ℕ). l ++ renewed w (drop (i + 1) s)) (anew_octet w q)

    bare_one : get_or s i 0 ≡ 59 → semicolon_at (drop i s) ≡ 59 ∷ []
    unfolding semicolon_at
    bare_one q = simp (e, bare_eq, eq-eqb (get_or s i 0) 59 q)

    bare_none : (get_or s i 0 ≡ 59 → ⊥) → semicolon_at (drop i s) ≡ []
    unfolding semicolon_at
    bare_none n = simp (e, bare_eq, ne_eqb (get_or s i 0) 59 n)

    pub semicolons_one : get_or s i 0 ≡ 59 → semicolons (drop i s) ≡ 59 ∷ semicolons (drop (i + 1) s)
    unfolding semicolons
    semicolons_one q = gather_step passed semicolon_at s i 1 h passed_octet (omega arith) ∙ ap (λ (l : List ℕ). l ++ semicolons (drop (i + 1) s)) (bare_one q)

    pub semicolons_none : (get_or s i 0 ≡ 59 → ⊥) → semicolons (drop i s) ≡ semicolons (drop (i + 1) s)
    unfolding semicolons
    semicolons_none n = gather_step passed semicolon_at s i 1 h passed_octet (omega arith) ∙ ap (λ (l : List ℕ). l ++ semicolons (drop (i + 1) s)) (bare_none n)

  pub renewed_end : (w : Bool) → length s ≤ i → renewed w (drop i s) ≡ []
  unfolding renewed
  renewed_end w h = gather_end passed (anew w) s i h

  pub semicolons_end : length s ≤ i → semicolons (drop i s) ≡ []
  unfolding semicolons
  semicolons_end h = gather_end passed semicolon_at s i h
