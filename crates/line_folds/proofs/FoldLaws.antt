-- The laws of folds at a place of a list. Assumes nothing.
use mathlib.Core.Path.{◌≡◌, refl, sym, ap, ◌∙◌}
use mathlib.Core.Bool.{Bool, true, false, ◌&&◌, ◌||◌, and-false, true≢false}
use mathlib.Core.List.{List, [], ◌∷◌, ◌++◌}
use Prim.Native.Nat.{ℕ, zero, suc, pred, ◌+◌, ◌<◌, ◌≤◌}
use native.Mathlib.Nat.{add-zero}
use native.Mathlib.Omega.{arith}
use lib.Dec.{eqb, ltb}
use lib.ListN.{length, get_or, drop, get_or-eq_default, length-append}
use lib.Seq.{get_or-drop}
use borrow.Author.Tests.{ltb-true, ltb-false, eq-eqb, ne_eqb}
use Rattle.octets.specs.Pick.{pick}
use Rattle.line_folds.specs.Folds.{fold_at, line_step, passed, kept, unfolded}
use Rattle.octets.specs.Scan.{gather}
use Rattle.octets.proofs.Scans.{gather_step}

module _ (s : List ℕ) (i : ℕ) where
  pub fold_eq : fold_at (drop i s) ≡ (eqb (get_or s i 0) 13 && (eqb (get_or s (i + 1) 0) 10 && (eqb (get_or s (i + 2) 0) 32 || eqb (get_or s (i + 2) 0) 9)))
  unfolding fold_at
  fold_eq = simp (get_or-drop, add-zero)

  -- by the three octets there
  pub fold_three : fold_at (get_or s i 0 ∷ get_or s (i + 1) 0 ∷ get_or s (i + 2) 0 ∷ []) ≡ fold_at (drop i s)
  unfolding fold_at
  fold_three = sym fold_eq

  pub fold_short : length s ≤ i + 2 → fold_at (drop i s) ≡ false
  fold_short h = fold_eq ∙ simp (get_or-eq_default s 0 h, and-false)

  inside : (t : Bool) → ltb (i + 2) (length s) ≡ t → fold_at (drop i s) ≡ true → i + 3 ≤ length s
  inside true e h = omega (arith, ltb-true (i + 2) (length s) e)
  inside false e h = absurd (true≢false (sym h ∙ fold_short (ltb-false (i + 2) (length s) e)))

  pub fold_inside : fold_at (drop i s) ≡ true → i + 3 ≤ length s
  fold_inside = inside (ltb (i + 2) (length s)) refl

  pub not_cr_lem : (get_or s i 0 ≡ 13 → ⊥) → fold_at (drop i s) ≡ false
  not_cr_lem h = fold_eq ∙ simp (ne_eqb (get_or s i 0) 13 h)

  pub line_fold : fold_at (drop i s) ≡ true → line_step (drop i s) ≡ 3
  unfolding line_step
  line_fold e = simp e

  pub line_stop : fold_at (drop i s) ≡ false → get_or s i 0 ≡ 13 → line_step (drop i s) ≡ 0
  unfolding line_step
  line_stop e h = simp (e, get_or-drop, add-zero, eq-eqb (get_or s i 0) 13 h)

  pub line_octet : (get_or s i 0 ≡ 13 → ⊥) → line_step (drop i s) ≡ 1
  unfolding line_step
  line_octet h = simp (not_cr_lem h, get_or-drop, add-zero, ne_eqb (get_or s i 0) 13 h)

  passed_fold : fold_at (drop i s) ≡ true → passed (drop i s) ≡ 3
  unfolding passed
  passed_fold e = simp e

  passed_octet : fold_at (drop i s) ≡ false → passed (drop i s) ≡ 1
  unfolding passed
  passed_octet e = simp e

  kept_fold : fold_at (drop i s) ≡ true → kept (drop i s) ≡ []
  unfolding kept
  kept_fold e = simp e

  kept_octet : fold_at (drop i s) ≡ false → kept (drop i s) ≡ get_or s i 0 ∷ []
  unfolding kept
  kept_octet e = simp (e, get_or-drop, add-zero)

  -- a step of unfolding
  pub fold_next : i < length s → fold_at (drop i s) ≡ true → gather passed kept (drop i s) 0 ≡ gather passed kept (drop (i + 3) s) 0
  fold_next h e =
      gather_step passed kept s i 3 h (passed_fold e) (omega arith) ∙ ap (λ (r : List ℕ). r ++ gather passed kept (drop (i + 3) s) 0) (kept_fold e)

  pub octet_next : i < length s → fold_at (drop i s) ≡ false → gather passed kept (drop i s) 0 ≡ (get_or s i 0 ∷ []) ++ gather passed kept (drop (i + 1) s) 0
  octet_next h e =
      gather_step passed kept s i 1 h (passed_octet e) (omega arith) ∙ ap (λ (r : List ℕ). r ++ gather passed kept (drop (i + 1) s) 0) (kept_octet e)

kept_one : (t : Bool) (b : ℕ) → length (pick t [] (b ∷ [])) ≤ 1
kept_one true b = omega arith
kept_one false b = omega arith

shorter : (l : List ℕ) (k : ℕ) → length (gather passed kept l k) ≤ length l
unfolding gather kept
shorter [] k = omega arith
shorter (x ∷ xs) zero =
    omega (arith, length-append (pick (fold_at (x ∷ xs)) [] (x ∷ [])) (gather passed kept xs (pred (passed (x ∷ xs)))), kept_one (fold_at (x ∷ xs)) x, shorter xs (pred (passed (x ∷ xs))))
shorter (x ∷ xs) (suc k) = omega (arith, shorter xs k)

-- unfolding makes no line longer
pub unfold_shorter : (l : List ℕ) → length (unfolded l) ≤ length l
unfolding unfolded
unfold_shorter l = shorter l 0
