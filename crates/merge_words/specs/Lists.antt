-- Elements of lists and their places. Assumes nothing.
use Rattle.std.specs.Prelude.{ℕ, suc, List, ◌∷◌}

-- a is in the list
pub data Member {A : Type 0} (a : A) : List A → Type 0 where
  here : {xs : List A} → Member a (a ∷ xs)
  there : {x : A} {xs : List A} → Member a xs → Member a (x ∷ xs)

-- x is the element i, counted from 0
pub data At {A : Type 0} : List A → ℕ → A → Type 0 where
  first : {x : A} {xs : List A} → At (x ∷ xs) 0 x
  later : {x y : A} {xs : List A} {i : ℕ} → At xs i x → At (y ∷ xs) (suc i) x
