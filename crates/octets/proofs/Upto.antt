-- Two functions that give the same list over the numbers below n agree at each of them: one computed test for a whole table.
-- Assumes nothing.
use mathlib.Core.Path.{◌≡◌, sym, ap, subst, ◌∙◌}
use mathlib.Core.List.{List, [], ◌∷◌}
use Prim.Native.Nat.{ℕ, zero, suc, ◌+◌, ◌<◌}
use lib.ListN.{get_or, take}
use native.Mathlib.Nat.{add-zero, zero-add, add-suc, suc-add, le_of_suc-le-suc, not-suc-le-zero}
use Rattle.octets.proofs.Bools.{clash}

unfoldable pub upto : {A : Type 0} → (ℕ → A) → ℕ → ℕ → List A
upto f i zero = []
upto f i (suc n) = f i ∷ upto f (suc i) n

module _ {A : Type 0} (f g : ℕ → A) where
  pub from : (n i : ℕ) → upto f i n ≡ upto g i n → (k : ℕ) → k < n → f (i + k) ≡ g (i + k)
  unfolding upto
  from zero i e k h = absurd (not-suc-le-zero h)
  from (suc n) i e zero h = rw (add-zero i) (cc)
  from (suc n) i e (suc k) h =
      let rest : upto f (suc i) n ≡ upto g (suc i) n = cc in
      let there : suc i + k ≡ i + suc k = suc-add i k ∙ sym (add-suc i k) in
      subst (λ (m : ℕ). f m ≡ g m) there (from n (suc i) rest k (le_of_suc-le-suc h))

  pub alike : (n : ℕ) → upto f 0 n ≡ upto g 0 n → (k : ℕ) → k < n → f k ≡ g k
  alike n e k h = subst (λ (m : ℕ). f m ≡ g m) (zero-add k) (from n 0 e k h)

unfoldable pub along : {A : Type 0} → (ℕ → A) → List ℕ → List A
along g [] = []
along g (x ∷ xs) = g x ∷ along g xs

-- a table whose first n entries, by g, are what f gives in turn: one walk over the table
module _ {A : Type 0} (g f : ℕ → A) where
  none_left : (a : A) (l : List A) → [] ≡ a ∷ l → ⊥
  none_left a l e = clash cc

  entry_from : (t : List ℕ) (n i : ℕ) → take n (along g t) ≡ upto f i n → (k : ℕ) → k < n → g (get_or t k 0) ≡ f (i + k)
  unfolding along upto
  entry_from t zero i e k h = absurd (not-suc-le-zero h)
  entry_from [] (suc n) i e k h = absurd (none_left (f i) (upto f (suc i) n) e)
  entry_from (x ∷ xs) (suc n) i e zero h = rw (add-zero i) (cc)
  entry_from (x ∷ xs) (suc n) i e (suc k) h =
      let rest : take n (along g xs) ≡ upto f (suc i) n = cc in
      let there : suc i + k ≡ i + suc k = suc-add i k ∙ sym (add-suc i k) in
      entry_from xs n (suc i) rest k (le_of_suc-le-suc h) ∙ ap f there

  pub entries : (t : List ℕ) (n : ℕ) → take n (along g t) ≡ upto f 0 n → (k : ℕ) → k < n → g (get_or t k 0) ≡ f k
  entries t n e k h = entry_from t n 0 e k h ∙ ap f (zero-add k)
