-- A text that matches a shape has no fault: the laws of derivatives, of nullable and of dead shapes. Assumes nothing.
use mathlib.Core.Path.{◌≡◌, refl, sym, ap, subst, ◌∙◌}
use mathlib.Core.Bool.{Bool, true, false, false≢true}
use mathlib.Core.List.{List, [], ◌∷◌, ◌++◌}
use mathlib.Core.Logic.{◌⊎◌, inl, inr, ⊎_elim}
use Prim.Native.Nat.{ℕ, ◌+◌}
use native.Mathlib.Omega.{arith}
use Rattle.octets.specs.Pick.{pick}
use Rattle.value_kinds.specs.Octets.{holds}
use Rattle.value_kinds.specs.Shapes.{Shape, never, empty, one, ◌then◌, ◌or◌, many, joined, Every, Matches, nullable, dead, chain, is_never, fork, derivative, fault_from}
use Rattle.value_kinds.specs.declared.Fault.TheVariants.{Fits}
use Rattle.octets.proofs.Bools.{by, and_both, or_some, or_left, or_right}

pub nil_cons : (x : ℕ) (v : List ℕ) → [] ≡ x ∷ v → ⊥
nil_cons x v e = let z : ◌≡◌ {A = ℕ} 0 1 = cc in omega arith

pub move : (r : Shape) {v w : List ℕ} → v ≡ w → Matches r v → Matches r w
move r e h = subst (Matches r) e h

-- what matches the long forms matches the short ones
chain_to : (a b : Shape) (v : List ℕ) → Matches (a then b) v → Matches (chain a b) v
unfolding Matches chain
chain_to never b v (u, w, e, f, g) = f
chain_to empty b v (u, w, e, f, g) = move b (sym (e ∙ ap (λ (l : List ℕ). l ++ w) f)) g
chain_to (one p) b v h = h
chain_to (a then c) b v h = h
chain_to (a or c) b v h = h
chain_to (many a) b v h = h

never_none : (a : Shape) (v : List ℕ) → is_never a ≡ true → Matches a v → ⊥
unfolding Matches is_never
never_none never v e h = h
never_none empty v e h = false≢true e
never_none (one p) v e h = false≢true e
never_none (a then b) v e h = false≢true e
never_none (a or b) v e h = false≢true e
never_none (many a) v e h = false≢true e

pick_to : (a b : Shape) (v : List ℕ) (s t : Bool) → (s ≡ true → Matches a v → ⊥) → (t ≡ true → Matches b v → ⊥) → Matches a v ⊎ Matches b v
    → Matches (pick s b (pick t a (a or b))) v
unfolding Matches
pick_to a b v true t f g (inl p) = absurd (f refl p)
pick_to a b v true t f g (inr q) = q
pick_to a b v false true f g (inl p) = p
pick_to a b v false true f g (inr q) = absurd (g refl q)
pick_to a b v false false f g (inl p) = inl p
pick_to a b v false false f g (inr q) = inr q

fork_to : (a b : Shape) (v : List ℕ) → Matches a v ⊎ Matches b v → Matches (fork a b) v
unfolding fork
fork_to a b v h = pick_to a b v (is_never a) (is_never b) (never_none a v) (never_none b v) h

-- the empty text
pub end_to : (r : Shape) → Matches r [] → nullable r ≡ true
unfolding Matches nullable
end_to never h = absurd h
end_to empty h = refl
end_to (one p) (x, e, f) = absurd (nil_cons x [] f)
end_to (a then b) ([], w, e, f, g) = rw (end_to a f) (end_to b (move b (sym e) g))
end_to (a then b) (y ∷ u, w, e, f, g) = absurd (nil_cons y (u ++ w) e)
end_to (a or b) (inl h) = or_left (nullable a) (nullable b) (end_to a h)
end_to (a or b) (inr h) = or_right (nullable a) (nullable b) (end_to b h)
end_to (many a) h = refl

-- no text matches a dead shape
pub dead_none : (r : Shape) → dead r ≡ true → (v : List ℕ) → Matches r v → ⊥
unfolding Matches dead
dead_none never e v h = h
dead_none empty e v h = false≢true e
dead_none (one p) e v h = false≢true e
dead_none (a then b) e v (u, w, q, f, g) = ⊎_elim (λ l. dead_none a l u f) (λ l. dead_none b l w g) (or_some (dead a) (dead b) e)
dead_none (a or b) e v (inl h) = dead_none a (and_both (dead a) (dead b) e).0 v h
dead_none (a or b) e v (inr h) = dead_none b (and_both (dead a) (dead b) e).1 v h
dead_none (many a) e v h = false≢true e

-- the derivative by an octet
choose_to : (m : Bool) (p q : Shape) (v : List ℕ) → ((m ≡ true) × Matches q v) ⊎ Matches p v → Matches (pick m (fork p q) p) v
choose_to true p q v (inl h) = fork_to p q v (inr h.1)
choose_to true p q v (inr h) = fork_to p q v (inl h)
choose_to false p q v (inl h) = absurd (false≢true h.0)
choose_to false p q v (inr h) = h

one_to : (t : Bool) (v : List ℕ) → t ≡ true → v ≡ [] → Matches (pick t empty never) v
unfolding Matches
one_to true v e f = f
one_to false v e f = absurd (false≢true e)

module _ (x : ℕ) where
  many_to : (a : Shape) → ((u : List ℕ) → Matches a (x ∷ u) → Matches (derivative x a) u) → (v : List ℕ) (vs : List (List ℕ)) → x ∷ v ≡ joined vs
      → Every (Matches a) vs → Matches (derivative x a then many a) v
  unfolding Matches joined Every
  many_to a f v [] e h = absurd (nil_cons x v (sym e))
  many_to a f v ([] ∷ vs) e h = many_to a f v vs e h.1
  many_to a f v ((y ∷ u) ∷ vs) e h =
      let same : y ≡ x = cc in
      let rest : v ≡ u ++ joined vs = cc in
      (u, joined vs, rest, f u (subst (λ (z : ℕ). Matches a (z ∷ u)) same h.0), (vs, refl, h.1))

  then_to : (a b : Shape) (v : List ℕ) → ((u : List ℕ) → Matches a (x ∷ u) → Matches (derivative x a) u) → (Matches b (x ∷ v) → Matches (derivative x b) v)
      → (u w : List ℕ) → x ∷ v ≡ u ++ w → Matches a u → Matches b w → ((nullable a ≡ true) × Matches (derivative x b) v) ⊎ Matches (chain (derivative x a) b) v
  unfolding Matches
  then_to a b v f g [] w e p q = inl (end_to a p, g (move b (sym e) q))
  then_to a b v f g (y ∷ u) w e p q =
      let same : y ≡ x = cc in
      let rest : v ≡ u ++ w = cc in
      inr (chain_to (derivative x a) b v (u, w, rest, f u (subst (λ (z : ℕ). Matches a (z ∷ u)) same p), q))

  pub derivative_to : (r : Shape) (v : List ℕ) → Matches r (x ∷ v) → Matches (derivative x r) v
  unfolding Matches derivative
  derivative_to never v h = h
  derivative_to empty v h = nil_cons x v (sym h)
  derivative_to (one p) v (y, e, f) =
      let same : y ≡ x = cc in
      let rest : v ≡ [] = cc in
      one_to (holds p x) v (subst (λ (z : ℕ). holds p z ≡ true) same e) rest
  derivative_to (a then b) v (u, w, e, f, g) =
      choose_to (nullable a) (chain (derivative x a) b) (derivative x b) v (then_to a b v (derivative_to a) (derivative_to b v) u w e f g)
  derivative_to (a or b) v (inl h) = fork_to (derivative x a) (derivative x b) v (inl (derivative_to a v h))
  derivative_to (a or b) v (inr h) = fork_to (derivative x a) (derivative x b) v (inr (derivative_to b v h))
  derivative_to (many a) v (vs, e, h) = chain_to (derivative x a) (many a) v (many_to a (derivative_to a) v vs e h)

pub fits_from : (r : Shape) (i : ℕ) (v : List ℕ) → Matches r v → fault_from r i v ≡ Fits
unfolding fault_from
fits_from r i [] h = rw (end_to r h)
fits_from r i (x ∷ xs) h =
    let k = derivative_to x r xs h in
    by (dead (derivative x r)) (λ e. absurd (dead_none (derivative x r) e xs k)) (λ e. rw e (fits_from (derivative x r) (i + 1) xs k))
