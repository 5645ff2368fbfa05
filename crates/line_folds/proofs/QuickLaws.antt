-- The quick way to a line's end: up to its first CR a line has no fold, so that it need not be copied. Assumes nothing.
use mathlib.Core.Path.{◌≡◌, refl, sym, ap, ◌∙◌}
use mathlib.Core.Bool.{Bool, true, false, not}
use mathlib.Core.List.{List, [], ◌∷◌}
use Prim.Native.Nat.{ℕ, zero, suc, ◌+◌, ◌≤◌}
use native.Mathlib.Nat.{zero-add, suc-add, le_of_suc-le-suc, not-suc-le-zero}
use native.Mathlib.Omega.{arith}
use lib.Dec.{eqb}
use lib.ListN.{take, drop}
use Rattle.octets.specs.Classes.{run, more}
use Rattle.octets.specs.Scan.{after, scan, gather}
use Rattle.line_folds.specs.Folds.{fold_at, line_step, line_length, passed, kept, unfolded, not_cr}

-- an octet that is no CR starts no fold and is one step
module _ (x : ℕ) (xs : List ℕ) (e : eqb x 13 ≡ false) where
  flat : fold_at (x ∷ xs) ≡ false
  unfolding fold_at
  flat = simp e

  one : line_step (x ∷ xs) ≡ 1
  unfolding line_step
  one = simp (flat, e)

  keeps : (r : List ℕ) → gather passed kept (x ∷ xs) 0 ≡ x ∷ gather passed kept xs 0
  unfolding gather passed kept
  keeps r = simp flat

same : (l : List ℕ) (k : ℕ) → k ≤ run not_cr l → gather passed kept (take k l) 0 ≡ take k l
unfolding run gather not_cr
same l zero h = refl
same [] (suc k) h = refl
same (x ∷ xs) (suc k) h = by (eqb x 13) refl h (same xs k)
  where
    by : (t : Bool) → eqb x 13 ≡ t → suc k ≤ more (not t) (run not_cr xs) → (k ≤ run not_cr xs → gather passed kept (take k xs) 0 ≡ take k xs) → gather passed kept (take (suc k) (x ∷ xs)) 0 ≡ take (suc k) (x ∷ xs)
    by true e h f = absurd (not-suc-le-zero h)
    by false e h f = keeps x (take k xs) e [] ∙ ap (λ (r : List ℕ). x ∷ r) (f (le_of_suc-le-suc h))

-- up to the first CR nothing is unfolded
pub no_fold : (l : List ℕ) (k : ℕ) → k ≡ run not_cr l → unfolded (take k l) ≡ take k l
unfolding unfolded
no_fold l k e = same l k (omega arith)

-- the line's length is counted from its first CR on
reach : (l : List ℕ) → scan line_step l 0 ≡ run not_cr l + scan line_step (drop (run not_cr l) l) 0
unfolding run not_cr scan
reach [] = sym (zero-add _)
reach (x ∷ xs) = by (eqb x 13) refl (reach xs)
  where
    by : (t : Bool) → eqb x 13 ≡ t → scan line_step xs 0 ≡ run not_cr xs + scan line_step (drop (run not_cr xs) xs) 0
        → scan line_step (x ∷ xs) 0 ≡ more (not t) (run not_cr xs) + scan line_step (drop (more (not t) (run not_cr xs)) (x ∷ xs)) 0
    by true e f = sym (zero-add _)
    by false e f = ap (λ (k : ℕ). after k (scan line_step xs)) (one x xs e) ∙ ap suc f ∙ sym (suc-add (run not_cr xs) _)

pub line_reach : (l : List ℕ) → line_length l ≡ run not_cr l + line_length (drop (run not_cr l) l)
unfolding line_length
line_reach l = reach l
