-- Folds counted: a text is three octets for each fold longer than without its folds. Assumes nothing.
use mathlib.Core.Path.{◌≡◌, refl, sym, ap, ◌∙◌}
use mathlib.Core.Bool.{Bool, true, false, ◌&&◌, ◌||◌, and-false, false≢true}
use mathlib.Core.List.{List, [], ◌∷◌}
use Prim.Native.Nat.{ℕ, suc, ◌+◌, ◌*◌, ◌<◌, ◌≤◌}
use native.Mathlib.Numerals.{add-one}
use native.Mathlib.Omega.{arith}
use lib.Dec.{eqb}
use lib.ListN.{length, drop, length-drop}
use lib.Seq.{drop-cons}
use borrow.Author.Tests.{eqb-true, ne_eqb}
use Rattle.octets.specs.Classes.{bit}
use Rattle.octets.specs.Scan.{gather}
use Rattle.line_folds.specs.Folds.{fold_at, passed, kept, unfolded}

-- at how many places a fold starts
unfoldable pub fold_count : List ℕ → ℕ
fold_count [] = 0
fold_count (x ∷ xs) = bit (fold_at (x ∷ xs)) 1 + fold_count xs

pub count_step : (s : List ℕ) (i n : ℕ) → i < length s → n ≡ bit (fold_at (drop i s)) 1 → fold_count (drop i s) ≡ n + fold_count (drop (i + 1) s)
unfolding fold_count
count_step s i n h e =
    let q = drop-cons s i 0 h in
    ap fold_count q
    ∙ ap (λ (l : List ℕ). bit (fold_at l) 1 + fold_count (drop (suc i) s)) (sym q)
    ∙ ap (λ (m : ℕ). m + fold_count (drop (suc i) s)) (sym e)
    ∙ ap (λ (m : ℕ). n + fold_count (drop m s)) (sym (add-one i))

short : (l : List ℕ) → length l ≤ 2 → fold_count l ≡ 0
unfolding fold_count fold_at
short [] h = refl
short (x ∷ []) h = simp and-false
short (x ∷ y ∷ []) h = simp and-false
short (x ∷ y ∷ z ∷ l) h = absurd (omega arith)

-- the last two octets start no fold
pub count_short : (s : List ℕ) (i : ℕ) → length s ≤ i + 2 → fold_count (drop i s) ≡ 0
count_short s i h = short (drop i s) (rw (length-drop i s) (omega arith))

-- an octet that is no CR starts no fold
flat : (x : ℕ) (xs : List ℕ) → eqb x 13 ≡ false → fold_at (x ∷ xs) ≡ false
unfolding fold_at
flat x xs e = simp e

-- neither does the second or the third octet of a fold
inner : (x y z : ℕ) (r : List ℕ) → fold_at (x ∷ y ∷ z ∷ r) ≡ true → (eqb y 13 ≡ false) × (eqb z 13 ≡ false)
unfolding fold_at
inner x y z r e = by (eqb x 13) (eqb y 10) (eqb z 32) (eqb z 9) refl refl refl e
  where
    by : (a b p q : Bool) → eqb y 10 ≡ b → eqb z 32 ≡ p → eqb z 9 ≡ q → (a && (b && (p || q))) ≡ true → (eqb y 13 ≡ false) × (eqb z 13 ≡ false)
    by false b p q eb ep eq e = absurd (false≢true e)
    by true false p q eb ep eq e = absurd (false≢true e)
    by true true true q eb ep eq e =
        (ne_eqb y 13 (λ h. omega (arith, eqb-true y 10 eb)), ne_eqb z 13 (λ h. omega (arith, eqb-true z 32 ep)))
    by true true false true eb ep eq e =
        (ne_eqb y 13 (λ h. omega (arith, eqb-true y 10 eb)), ne_eqb z 13 (λ h. omega (arith, eqb-true z 9 eq)))
    by true true false false eb ep eq e = absurd (false≢true e)

-- one step: an octet, or a fold
module _ (x y z : ℕ) (r : List ℕ) where
  kept_octet : fold_at (x ∷ y ∷ z ∷ r) ≡ false → unfolded (x ∷ y ∷ z ∷ r) ≡ x ∷ unfolded (y ∷ z ∷ r)
  unfolding unfolded gather passed kept
  kept_octet e = simp e

  count_octet : fold_at (x ∷ y ∷ z ∷ r) ≡ false → fold_count (x ∷ y ∷ z ∷ r) ≡ fold_count (y ∷ z ∷ r)
  unfolding fold_count
  count_octet e = simp e (omega arith)

  kept_fold : fold_at (x ∷ y ∷ z ∷ r) ≡ true → unfolded (x ∷ y ∷ z ∷ r) ≡ unfolded r
  unfolding unfolded gather passed kept
  kept_fold e = simp e

  count_fold : fold_at (x ∷ y ∷ z ∷ r) ≡ true → fold_count (x ∷ y ∷ z ∷ r) ≡ 1 + fold_count r
  unfolding fold_count
  count_fold e = let i = inner x y z r e in simp (e, flat y (z ∷ r) i.0, flat z r i.1) (omega arith)

few : (l : List ℕ) → length l ≤ 2 → unfolded l ≡ l
unfolding unfolded gather passed kept fold_at
few [] h = refl
few (x ∷ []) h = simp and-false
few (x ∷ y ∷ []) h = simp and-false
few (x ∷ y ∷ z ∷ l) h = absurd (omega arith)

pub count_law : (l : List ℕ) → length (unfolded l) + 3 * fold_count l ≡ length l
count_law [] = omega (arith, ap length (few [] (omega arith)), short [] (omega arith))
count_law (x ∷ []) = omega (arith, ap length (few (x ∷ []) (omega arith)), short (x ∷ []) (omega arith))
count_law (x ∷ y ∷ []) = omega (arith, ap length (few (x ∷ y ∷ []) (omega arith)), short (x ∷ y ∷ []) (omega arith))
count_law (x ∷ y ∷ z ∷ r) = by (fold_at (x ∷ y ∷ z ∷ r)) refl (count_law (y ∷ z ∷ r)) (count_law r)
  where
    by : (t : Bool) → fold_at (x ∷ y ∷ z ∷ r) ≡ t
        → length (unfolded (y ∷ z ∷ r)) + 3 * fold_count (y ∷ z ∷ r) ≡ length (y ∷ z ∷ r) → length (unfolded r) + 3 * fold_count r ≡ length r
        → length (unfolded (x ∷ y ∷ z ∷ r)) + 3 * fold_count (x ∷ y ∷ z ∷ r) ≡ length (x ∷ y ∷ z ∷ r)
    by true e h g = omega (arith, ap length (kept_fold x y z r e), count_fold x y z r e)
    by false e h g = omega (arith, ap length (kept_octet x y z r e), count_octet x y z r e)
