-- Pairs joined one after the other. Assumes nothing.
use mathlib.Core.Path.{◌≡◌, refl, sym, ap, ◌∙◌}
use mathlib.Core.Bool.{Bool, true, false}
use mathlib.Core.List.{List, [], ◌∷◌, ◌++◌}
use Prim.Native.Nat.{ℕ}
use Rattle.octets.specs.Pick.{pick}
use Rattle.octets.proofs.Bools.{by}
use Rattle.merge_partners.specs.Pairs.{Pair, Joined, joined, join_to, join_all}

module _ (s : Joined) (x : Pair) (xs : List Pair) where
  step_on : s.ok ≡ true → join_all s (x ∷ xs) ≡ join_all (join_to s.first s.second x.left x.right) xs
  unfolding join_all
  step_on e = ap (λ (b : Bool). pick b (join_all (join_to s.first s.second x.left x.right) xs) s) e

  step_off : s.ok ≡ false → join_all s (x ∷ xs) ≡ s
  unfolding join_all
  step_off e = ap (λ (b : Bool). pick b (join_all (join_to s.first s.second x.left x.right) xs) s) e

-- what could not be joined stays so
pub join_stopped : (s : Joined) → s.ok ≡ false → (ys : List Pair) → join_all s ys ≡ s
unfolding join_all
join_stopped s e [] = refl
join_stopped s e (y ∷ ys) = step_off s y ys e

pub join_append : (s : Joined) (xs ys : List Pair) → join_all s (xs ++ ys) ≡ join_all (join_all s xs) ys
unfolding join_all
join_append s [] ys = refl
join_append s (x ∷ xs) ys =
    by s.ok
    (λ e.
    step_on s x (xs ++ ys) e ∙ join_append (join_to s.first s.second x.left x.right) xs ys
    ∙ ap (λ (z : Joined). join_all z ys) (sym (step_on s x xs e)))
    (λ e. step_off s x (xs ++ ys) e ∙ sym (join_stopped s e ys) ∙ ap (λ (z : Joined). join_all z ys) (sym (step_off s x xs e)))

-- pairs of which the first were joined to s'
module _ (s : Joined) (ok : Bool) (p t : List ℕ) (xs : List Pair) (e : joined ok p t ≡ join_all s xs) where
  pub join_on : (ys : List Pair) → ok ≡ true → join_all s (xs ++ ys) ≡ join_all (joined true p t) ys
  join_on ys h = join_append s xs ys ∙ ap (λ (z : Joined). join_all z ys) (sym e) ∙ ap (λ (b : Bool). join_all (joined b p t) ys) h

  pub join_off : (ys : List Pair) → ok ≡ false → join_all s (xs ++ ys) ≡ joined false p t
  join_off ys h =
      join_append s xs ys ∙ ap (λ (z : Joined). join_all z ys) (sym e) ∙ join_stopped (joined ok p t) h ys ∙ ap (λ (b : Bool). joined b p t) h
