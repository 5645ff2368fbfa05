-- One step of the places that unfolding keeps, what stands at them, and that they rise. Assumes nothing.
use mathlib.Core.Path.{◌≡◌, refl, sym, ap, subst, ◌∙◌}
use mathlib.Core.Bool.{Bool, true, false}
use mathlib.Core.List.{List, [], ◌∷◌, ◌++◌}
use Prim.Native.Nat.{ℕ, zero, suc, pred, ◌+◌, ◌<◌, ◌≤◌}
use native.Mathlib.Numerals.{add-one}
use native.Mathlib.Nat.{zero-add}
use native.Mathlib.Omega.{arith}
use lib.Dec.{ltb}
use lib.ListN.{length, get_or, drop, drop_of_length-le}
use lib.Seq.{drop-cons}
use borrow.Author.Tests.{ltb-true, ltb-false}
use Rattle.octets.specs.Pick.{pick}
use Rattle.octets.specs.Scan.{gather}
use Rattle.octets.proofs.Bools.{by}
use Rattle.line_folds.specs.Folds.{fold_at, passed, kept, unfolded}
use Rattle.line_folds.specs.Places.{kept_from, place_of}

-- the list from a place on
module _ (s : List ℕ) where
  step : (at k : ℕ) → at < length s → kept_from at (drop at s) (suc k) ≡ kept_from (at + 1) (drop (at + 1) s) k
  unfolding kept_from
  step at k h = ap (λ (l : List ℕ). kept_from at l (suc k)) (drop-cons s at 0 h ∙ ap (λ (n : ℕ). get_or s at 0 ∷ drop n s) (sym (add-one at)))

  pub kept_here : (at : ℕ) → at < length s → fold_at (drop at s) ≡ false → kept_from at (drop at s) 0 ≡ at ∷ kept_from (at + 1) (drop (at + 1) s) 0
  unfolding kept_from
  kept_here at h e =
      let d : drop at s ≡ get_or s at 0 ∷ drop (at + 1) s = drop-cons s at 0 h ∙ ap (λ (n : ℕ). get_or s at 0 ∷ drop n s) (sym (add-one at)) in
      let f : fold_at (get_or s at 0 ∷ drop (at + 1) s) ≡ false = subst (λ (l : List ℕ). fold_at l ≡ false) d e in
      ap (λ (l : List ℕ). kept_from at l 0) d ∙ rw f refl

  pub kept_past : (at : ℕ) → at + 3 ≤ length s → fold_at (drop at s) ≡ true → kept_from at (drop at s) 0 ≡ kept_from (at + 3) (drop (at + 3) s) 0
  unfolding kept_from
  kept_past at h e =
      let d : drop at s ≡ get_or s at 0 ∷ drop (at + 1) s = drop-cons s at 0 (omega arith) ∙ ap (λ (n : ℕ). get_or s at 0 ∷ drop n s) (sym (add-one at)) in
      let f : fold_at (get_or s at 0 ∷ drop (at + 1) s) ≡ true = subst (λ (l : List ℕ). fold_at l ≡ true) d e in
      let two : at + 1 + 1 ≡ at + 2 = omega arith in
      let three : at + 2 + 1 ≡ at + 3 = omega arith in
      ap (λ (l : List ℕ). kept_from at l 0) d ∙ rw f (
      step (at + 1) 1 (omega arith) ∙ rw two (step (at + 2) 0 (omega arith) ∙ rw three refl))

  pub kept_none : (at : ℕ) → length s ≤ at → kept_from at (drop at s) 0 ≡ []
  unfolding kept_from
  kept_none at h = rw (drop_of_length-le s h) refl

-- as many as unfolding keeps, and the octets there are those of the unfolded line
same_count : (i : ℕ) (l : List ℕ) (k : ℕ) → length (kept_from i l k) ≡ length (gather passed kept l k)
unfolding kept_from gather passed kept
same_count i [] k = refl
same_count i (x ∷ xs) (suc k) = same_count (i + 1) xs k
same_count i (x ∷ xs) zero =
    by (fold_at (x ∷ xs)) (λ e. rw e (same_count (i + 1) xs 2)) (λ e. rw e (ap suc (same_count (i + 1) xs 0)))

pub kept_count : (l : List ℕ) → length (kept_from 0 l 0) ≡ length (unfolded l)
unfolding unfolded
kept_count l = same_count 0 l 0

-- octet o of the places ps stands j octets on from i in l, and is octet o of g
abbrev Here : ℕ → List ℕ → List ℕ → List ℕ → ℕ → ℕ → Type 0
Here i l ps g o n = (j : ℕ) × (get_or ps o n ≡ i + j) × (get_or l j 0 ≡ get_or g o 0) × (j < length l)

onward : (i x : ℕ) (xs ps g : List ℕ) (o n : ℕ) → Here (i + 1) xs ps g o n → Here i (x ∷ xs) ps g o n
onward i x xs ps g o n (j, e, f, l) = (suc j, e ∙ omega arith, f, omega arith)

either : (i x : ℕ) (xs p q a b : List ℕ) (t : Bool) (o n : ℕ) → o < length (pick t p (i ∷ q))
    → ((m : ℕ) → m < length p → Here (i + 1) xs p a m n) → ((m : ℕ) → m < length q → Here (i + 1) xs q b m n)
    → Here i (x ∷ xs) (pick t p (i ∷ q)) (pick t a (x ∷ b)) o n
either i x xs p q a b true o n h f g = onward i x xs p a o n (f o h)
either i x xs p q a b false zero n h f g = (0, omega arith, refl, omega arith)
either i x xs p q a b false (suc o) n h f g =
    let y = onward i x xs q b o n (g o (omega arith)) in
    (y.0, y.1, y.2, y.3)

written : (t : Bool) (x : ℕ) (xs : List ℕ) → pick t [] (x ∷ []) ++ gather passed kept xs (pred (pick t 3 1)) ≡ pick t (gather passed kept xs 2) (x ∷ gather passed kept xs 0)
written true x xs = refl
written false x xs = refl

there : (i : ℕ) (l : List ℕ) (k o n : ℕ) → o < length (kept_from i l k) → Here i l (kept_from i l k) (gather passed kept l k) o n
unfolding kept_from gather passed kept
there i [] k o n h = absurd (omega arith)
there i (x ∷ xs) (suc k) o n h = onward i x xs (kept_from (i + 1) xs k) (gather passed kept xs k) o n (there (i + 1) xs k o n h)
there i (x ∷ xs) zero o n h =
    subst (λ (g : List ℕ). Here i (x ∷ xs) (kept_from i (x ∷ xs) 0) g o n) (sym (written (fold_at (x ∷ xs)) x xs))
    (either i x xs (kept_from (i + 1) xs 2) (kept_from (i + 1) xs 0) (gather passed kept xs 2) (gather passed kept xs 0) (fold_at (x ∷ xs)) o n h
    (λ m k. there (i + 1) xs 2 m n k) (λ m k. there (i + 1) xs 0 m n k))

-- octet o of the unfolded line stands at its place in the line as it came
pub place_octet : (l : List ℕ) (o : ℕ) → o < length (unfolded l) → (get_or l (place_of l o) 0 ≡ get_or (unfolded l) o 0) × (place_of l o < length l)
unfolding place_of unfolded
place_octet l o h =
    let x = there 0 l 0 o (length l) (rw (same_count 0 l 0) h) in
    let e : get_or (kept_from 0 l 0) o (length l) ≡ x.0 = x.1 ∙ zero-add x.0 in
    (rw e x.2, rw e x.3)

-- past the last octet its place is the line's end
pub place_end : (l : List ℕ) (o : ℕ) → length (unfolded l) ≤ o → place_of l o ≡ length l
unfolding place_of unfolded
place_end l o h = get_d_over (kept_from 0 l 0) o (length l) (rw (same_count 0 l 0) h)
  where
    get_d_over : (ps : List ℕ) (o n : ℕ) → length ps ≤ o → get_or ps o n ≡ n
    get_d_over [] o n h = refl
    get_d_over (p ∷ ps) zero n h = absurd (omega arith)
    get_d_over (p ∷ ps) (suc o) n h = get_d_over ps o n (omega arith)

-- no place from i on is below i
not_below : (i : ℕ) (l : List ℕ) (k p n : ℕ) → i + length l ≤ n → i ≤ get_or (kept_from i l k) p n
unfolding kept_from
not_below i [] k p n h = omega arith
not_below i (x ∷ xs) (suc k) p n h = omega (arith, not_below (i + 1) xs k p n (omega arith))
not_below i (x ∷ xs) zero p n h =
    one_of (fold_at (x ∷ xs)) (kept_from (i + 1) xs 2) (kept_from (i + 1) xs 0) p (λ m. not_below (i + 1) xs 2 m n (omega arith)) (λ m. not_below (i + 1) xs 0 m n (omega arith))
  where
    one_of : (t : Bool) (ps qs : List ℕ) (p : ℕ) → ((m : ℕ) → i + 1 ≤ get_or ps m n) → ((m : ℕ) → i + 1 ≤ get_or qs m n) → i ≤ get_or (pick t ps (i ∷ qs)) p n
    one_of true ps qs p f g = omega (arith, f p)
    one_of false ps qs zero f g = omega arith
    one_of false ps qs (suc p) f g = omega (arith, g p)

-- the places ps rise, up to n after the last of them
abbrev Rising : List ℕ → ℕ → Type 0
Rising ps n = (o p : ℕ) → o < p → p ≤ length ps → get_or ps o n < get_or ps p n

rises : (i : ℕ) (l : List ℕ) (k n : ℕ) → i + length l ≤ n → Rising (kept_from i l k) n
unfolding kept_from
rises i [] k n h o p lt le = absurd (omega arith)
rises i (x ∷ xs) (suc k) n h o p lt le = rises (i + 1) xs k n (omega arith) o p lt le
rises i (x ∷ xs) zero n h o p lt le =
    one_of (fold_at (x ∷ xs)) (kept_from (i + 1) xs 2) (kept_from (i + 1) xs 0) o p lt le (rises (i + 1) xs 2 n (omega arith)) (rises (i + 1) xs 0 n (omega arith)) (λ m. not_below (i + 1) xs 0 m n (omega arith))
  where
    one_of : (t : Bool) (ps qs : List ℕ) (o p : ℕ) → o < p → p ≤ length (pick t ps (i ∷ qs)) → Rising ps n → Rising qs n → ((m : ℕ) → i + 1 ≤ get_or qs m n)
        → get_or (pick t ps (i ∷ qs)) o n < get_or (pick t ps (i ∷ qs)) p n
    one_of true ps qs o p lt le f g b = f o p lt le
    one_of false ps qs o zero lt le f g b = absurd (omega arith)
    one_of false ps qs zero (suc p) lt le f g b = omega (arith, b p)
    one_of false ps qs (suc o) (suc p) lt le f g b = g o p (omega arith) (omega arith)

-- a later octet of the unfolded line stands later in the line as it came, and the line's end after all of them
pub place_rising : (l : List ℕ) (o p : ℕ) → o < p → p ≤ length (unfolded l) → place_of l o < place_of l p
unfolding place_of
place_rising l o p lt le = rises 0 l 0 (length l) (omega arith) o p lt (rw (kept_count l) le)

-- every place is in the line, or its end
pub place_inside : (l : List ℕ) (o : ℕ) → place_of l o ≤ length l
place_inside l o =
    by (ltb o (length (unfolded l))) (λ e. omega (arith, (place_octet l o (ltb-true o (length (unfolded l)) e)).1)) (λ e. omega (arith, place_end l o (ltb-false o (length (unfolded l)) e)))
