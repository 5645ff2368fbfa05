-- The logical lines of an input from a place on. Assumes nothing.
use mathlib.Core.Path.{◌≡◌, refl, ap, ◌∙◌}
use mathlib.Core.List.{List, [], ◌∷◌}
use Prim.Native.Nat.{ℕ, zero, suc, ◌+◌, ◌<◌, ◌≤◌}
use native.Mathlib.Nat.{not-suc-le-zero, le_refl}
use native.Mathlib.Omega.{arith}
use lib.ListN.{length, take, drop, length-drop, drop_of_length-le}
use lib.Seq.{drop-drop}
use Rattle.line_folds.specs.Folds.{line_length}
use Rattle.line_folds.specs.Logical.{lines_by, raw_lines}

-- any bound that is large enough gives the same lines
fuel : (n m : ℕ) (l : List ℕ) → length l ≤ n → length l ≤ m → lines_by n l ≡ lines_by m l
unfolding lines_by
fuel zero zero l hn hm = refl
fuel zero (suc m) [] hn hm = refl
fuel zero (suc m) (x ∷ xs) hn hm = absurd (not-suc-le-zero hn)
fuel (suc n) zero [] hn hm = refl
fuel (suc n) zero (x ∷ xs) hn hm = absurd (not-suc-le-zero hm)
fuel (suc n) (suc m) [] hn hm = refl
fuel (suc n) (suc m) (x ∷ xs) hn hm =
    ap (λ (r : List (List ℕ)). take (line_length (x ∷ xs)) (x ∷ xs) ∷ r)
    (fuel n m (drop (line_length (x ∷ xs) + 2) (x ∷ xs)) (shorter n hn) (shorter m hm))
  where
    shorter : (k : ℕ) → length (x ∷ xs) ≤ suc k → length (drop (line_length (x ∷ xs) + 2) (x ∷ xs)) ≤ k
    shorter k h = rw (length-drop (line_length (x ∷ xs) + 2) (x ∷ xs)) (omega arith)

first : (l : List ℕ) → 1 ≤ length l → raw_lines l ≡ take (line_length l) l ∷ raw_lines (drop (line_length l + 2) l)
unfolding raw_lines lines_by
first [] h = absurd (not-suc-le-zero h)
first (x ∷ xs) h =
    ap (λ (r : List (List ℕ)). take (line_length (x ∷ xs)) (x ∷ xs) ∷ r)
    (fuel (length xs) (length (drop (line_length (x ∷ xs) + 2) (x ∷ xs))) (drop (line_length (x ∷ xs) + 2) (x ∷ xs))
    (rw (length-drop (line_length (x ∷ xs) + 2) (x ∷ xs)) (omega arith)) (le_refl _))

module _ (s : List ℕ) (i : ℕ) where
  pub lines_step : i < length s → (k : ℕ) → k ≡ line_length (drop i s)
      → raw_lines (drop i s) ≡ take k (drop i s) ∷ raw_lines (drop (i + (k + 2)) s)
  lines_step h k e =
      let pos : 1 ≤ length (drop i s) = rw (length-drop i s) (omega arith) in
      rw e (first (drop i s) pos ∙ ap (λ (r : List ℕ). take (line_length (drop i s)) (drop i s) ∷ raw_lines r) (drop-drop (line_length (drop i s) + 2) i s))

  pub lines_end : length s ≤ i → raw_lines (drop i s) ≡ []
  unfolding raw_lines lines_by
  lines_end h = rw (drop_of_length-le s h)
