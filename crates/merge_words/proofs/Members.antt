-- Members of lists and what stands at a place. Assumes nothing.
use mathlib.Core.Path.{◌≡◌, refl}
use mathlib.Core.List.{List, [], ◌∷◌, ◌++◌}
use mathlib.Core.Logic.{◌⊎◌, inl, inr}
use Prim.Native.Nat.{ℕ, zero, suc, ◌<◌}
use native.Mathlib.Omega.{arith}
use lib.ListN.{length, get_or}
use Rattle.merge_words.specs.Lists.{Member, here, there, At, first, later}

module _ {A : Type 0} where
  pub member_none : {B : Type 0} {a : A} {xs : List A} → Member a xs → length xs ≡ 0 → B
  member_none here e = absurd (omega arith)
  member_none (there h) e = absurd (omega arith)

  pub member_cases : {a x : A} {xs : List A} → Member a (x ∷ xs) → (a ≡ x) ⊎ Member a xs
  member_cases here = inl refl
  member_cases (there h) = inr h

  pub member_left : {a : A} {xs : List A} → Member a xs → (ys : List A) → Member a (xs ++ ys)
  member_left here ys = here
  member_left (there h) ys = there (member_left h ys)

  pub member_right : {a : A} (xs : List A) {ys : List A} → Member a ys → Member a (xs ++ ys)
  member_right [] h = h
  member_right (x ∷ xs) h = there (member_right xs h)

  further : {a x : A} {xs ys : List A} → Member a xs ⊎ Member a ys → Member a (x ∷ xs) ⊎ Member a ys
  further (inl h) = inl (there h)
  further (inr h) = inr h

  pub member_append : {a : A} (xs ys : List A) → Member a (xs ++ ys) → Member a xs ⊎ Member a ys
  member_append [] ys h = inr h
  member_append (x ∷ xs) ys here = inl here
  member_append (x ∷ xs) ys (there h) = further (member_append xs ys h)

  pub at_member : {xs : List A} {i : ℕ} {x : A} → At xs i x → Member x xs
  at_member first = here
  at_member (later h) = there (at_member h)

  pub at_below : {xs : List A} {i : ℕ} {x : A} → At xs i x → i < length xs
  at_below first = omega arith
  at_below (later h) = omega (arith, at_below h)

  pub at_get : {xs : List A} {i : ℕ} {x : A} → At xs i x → (d : A) → get_or xs i d ≡ x
  at_get first d = refl
  at_get (later h) d = at_get h d

  pub get_member : (xs : List A) (i : ℕ) (d : A) → i < length xs → Member (get_or xs i d) xs
  get_member [] i d h = absurd (omega arith)
  get_member (x ∷ xs) zero d h = here
  get_member (x ∷ xs) (suc i) d h = there (get_member xs i d (omega arith))

  pub member_get : {x : A} {xs : List A} → Member x xs → (d : A) → (i : ℕ) × (i < length xs) × (get_or xs i d ≡ x)
  member_get here d = (0, omega arith, refl)
  member_get (there h) d =
      let r = member_get h d in
      (suc r.0, omega (arith, r.1), r.2)

  pub member_at : {x : A} {xs : List A} → Member x xs → (i : ℕ) × At xs i x
  member_at here = (0, first)
  member_at (there h) =
      let r = member_at h in
      (suc r.0, later r.1)
