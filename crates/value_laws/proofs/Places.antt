-- What a fault says of any shape: a text has none exactly where it matches, and a place is the first octet from which no continuation
-- does. Assumes nothing.
use mathlib.Core.Path.{◌≡◌, refl, sym, ap, subst, ◌∙◌}
use mathlib.Core.Bool.{Bool, true, false, ◌&&◌, ◌||◌, false≢true}
use mathlib.Core.List.{List, [], ◌∷◌, ◌++◌}
use mathlib.Core.Logic.{◌⊎◌, inl, inr, ⊎_elim, ◌↔◌}
use Prim.Native.Nat.{ℕ, suc, ◌+◌, ◌-◌, ◌%◌, ◌<◌}
use native.Mathlib.Nat.{add-zero, zero-add}
use native.Mathlib.Omega.{arith}
use lib.ListN.{take}
use borrow.Author.Tests.{eq-eqb, le-leb}
use Rattle.octets.specs.Pick.{pick}
use Rattle.octets.specs.Classes.{letter as is_letter, digit as is_digit}
use Rattle.octets.specs.Cases.{lower}
use Rattle.value_kinds.specs.Octets.{Octets, any, plain, inner, escapee, backslash, comma, semicolon, colon, letter, scheme, graphic, digit, sex, the_v, the_c, the_a, the_r, the_d, four, point, nought, the_t, the_z, minus, sign, figures, among, holds}
use Rattle.value_kinds.specs.Shapes.{Shape, never, empty, one, ◌then◌, ◌or◌, many, joined, Every, Matches, nullable, dead, chain, is_never, fork, derivative, fault_from}
use Rattle.value_kinds.specs.declared.Fault.TheVariants.{Fits, Breaks}
use Rattle.octets.proofs.Bools.{by, and_both, or_some}
use Rattle.value_kinds.proofs.ShapeLaws.{dead_none, derivative_to, fits_from}
use Rattle.value_laws.specs.Dead.{AreOctets, Dead}
use Rattle.value_laws.proofs.DeadLaws.{dead_once}

and_none : (s t : Bool) → (s && t) ≡ false → (s ≡ false) ⊎ (t ≡ false)
and_none true t e = inr e
and_none false t e = inl refl

or_none : (s t : Bool) → (s || t) ≡ false → (s ≡ false) × (t ≡ false)
or_none true t e = absurd (false≢true (sym e))
or_none false t e = (refl, e)

no_breaks : (k : ℕ) → Breaks k ≡ Fits → ⊥
no_breaks k e = let z : ◌≡◌ {A = ℕ} 0 1 = cc in omega arith

-- what matches the short forms matches the long ones
chain_from : (a b : Shape) (v : List ℕ) → Matches (chain a b) v → Matches (a then b) v
unfolding Matches chain
chain_from never b v h = absurd h
chain_from empty b v h = ([], v, refl, refl, h)
chain_from (one p) b v h = h
chain_from (a then c) b v h = h
chain_from (a or c) b v h = h
chain_from (many a) b v h = h

pick_from : (a b : Shape) (v : List ℕ) (s t : Bool) → Matches (pick s b (pick t a (a or b))) v → Matches a v ⊎ Matches b v
unfolding Matches
pick_from a b v true t h = inr h
pick_from a b v false true h = inl h
pick_from a b v false false h = h

fork_from : (a b : Shape) (v : List ℕ) → Matches (fork a b) v → Matches a v ⊎ Matches b v
unfolding fork
fork_from a b v h = pick_from a b v (is_never a) (is_never b) h

-- the empty text
end_from : (r : Shape) → nullable r ≡ true → Matches r []
unfolding Matches nullable joined Every
end_from never e = false≢true e
end_from empty e = refl
end_from (one p) e = absurd (false≢true e)
end_from (a then b) e =
    let h = and_both (nullable a) (nullable b) e in
    ([], [], refl, end_from a h.0, end_from b h.1)
end_from (a or b) e = ⊎_elim (λ h. inl (end_from a h)) (λ h. inr (end_from b h)) (or_some (nullable a) (nullable b) e)
end_from (many a) e = ([], refl, tt)

-- the first digit of a set of digits
figure_back : (m : ℕ) → 48 + m - 48 ≡ m
figure_back m = omega arith

figure_here : (d : ℕ) (ds : List ℕ) → holds (figures d ds) (48 + d % 10) ≡ true
unfolding holds is_digit among
figure_here d ds =
    let m = d % 10 in
    let low : m < 10 = omega arith in
    rw (figure_back m, eq-eqb m m refl, le-leb 48 (48 + m) (omega arith), le-leb (48 + m) 57 (omega arith))

-- an octet of each set
sample : (p : Octets) → (x : ℕ) × (x < 256) × (holds p x ≡ true)
unfolding holds is_letter is_digit lower
sample any = (0, omega arith, refl)
sample plain = (0, omega arith, refl)
sample inner = (0, omega arith, refl)
sample escapee = (92, omega arith, refl)
sample backslash = (92, omega arith, refl)
sample comma = (44, omega arith, refl)
sample semicolon = (59, omega arith, refl)
sample colon = (58, omega arith, refl)
sample letter = (65, omega arith, refl)
sample scheme = (65, omega arith, refl)
sample graphic = (65, omega arith, refl)
sample digit = (48, omega arith, refl)
sample sex = (77, omega arith, refl)
sample the_v = (86, omega arith, refl)
sample the_c = (67, omega arith, refl)
sample the_a = (65, omega arith, refl)
sample the_r = (82, omega arith, refl)
sample the_d = (68, omega arith, refl)
sample four = (52, omega arith, refl)
sample point = (46, omega arith, refl)
sample nought = (48, omega arith, refl)
sample the_t = (84, omega arith, refl)
sample the_z = (90, omega arith, refl)
sample minus = (45, omega arith, refl)
sample sign = (43, omega arith, refl)
sample (figures d ds) = (48 + d % 10, omega arith, figure_here d ds)

octets_join : (u v : List ℕ) → AreOctets u → AreOctets v → AreOctets (u ++ v)
unfolding AreOctets
octets_join [] v g h = h
octets_join (x ∷ u) v g h = (g.0, octets_join u v g.1 h)

-- a shape that is not dead has a text of octets
dead_some : (r : Shape) → dead r ≡ false → (v : List ℕ) × AreOctets v × Matches r v
unfolding Matches dead joined Every AreOctets
dead_some never e = absurd (false≢true (sym e))
dead_some empty e = ([], tt, refl)
dead_some (one p) e = let x = sample p in (x.0 ∷ [], (x.1, tt), (x.0, x.2, refl))
dead_some (a then b) e =
    let h = or_none (dead a) (dead b) e in
    let x = dead_some a h.0 in
    let y = dead_some b h.1 in
    (x.0 ++ y.0, octets_join x.0 y.0 x.1 y.1, (x.0, y.0, refl, x.2, y.2))
dead_some (a or b) e =
    ⊎_elim (λ h. let x = dead_some a h in (x.0, x.1, inl x.2)) (λ h. let x = dead_some b h in (x.0, x.1, inr x.2)) (and_none (dead a) (dead b) e)
dead_some (many a) e = ([], tt, ([], refl, tt))

-- the derivative by an octet
choose_from : (m : Bool) (p q : Shape) (v : List ℕ) → Matches (pick m (fork p q) p) v → ((m ≡ true) × Matches q v) ⊎ Matches p v
choose_from true p q v h = ⊎_elim (λ l. inr l) (λ l. inl (refl, l)) (fork_from p q v h)
choose_from false p q v h = inr h

one_from : (t : Bool) (v : List ℕ) → Matches (pick t empty never) v → (t ≡ true) × (v ≡ [])
unfolding Matches
one_from true v h = (refl, h)
one_from false v h = absurd h

module _ (x : ℕ) where
  then_from : (a b : Shape) (v : List ℕ) → ((u : List ℕ) → Matches (derivative x a) u → Matches a (x ∷ u)) → Matches (derivative x a then b) v → Matches (a then b) (x ∷ v)
  unfolding Matches
  then_from a b v f (u, w, e, p, q) = (x ∷ u, w, ap (λ (l : List ℕ). x ∷ l) e, f u p, q)

  many_from : (a : Shape) (v : List ℕ) → Matches (a then many a) v → Matches (many a) v
  unfolding Matches joined Every
  many_from a v (u, w, e, p, (vs, f, h)) = (u ∷ vs, e ∙ ap (λ (l : List ℕ). u ++ l) f, (p, h))

  pub derivative_from : (r : Shape) (v : List ℕ) → Matches (derivative x r) v → Matches r (x ∷ v)
  unfolding Matches derivative
  derivative_from never v h = h
  derivative_from empty v h = absurd h
  derivative_from (one p) v h =
      let k = one_from (holds p x) v h in
      (x, k.0, ap (λ (l : List ℕ). x ∷ l) k.1)
  derivative_from (a then b) v h =
      ⊎_elim
      (λ k. ([], x ∷ v, refl, end_from a k.0, derivative_from b v k.1))
      (λ k. then_from a b v (derivative_from a) (chain_from (derivative x a) b v k))
      (choose_from (nullable a) (chain (derivative x a) b) (derivative x b) v h)
  derivative_from (a or b) v h =
      ⊎_elim (λ k. inl (derivative_from a v k)) (λ k. inr (derivative_from b v k)) (fork_from (derivative x a) (derivative x b) v h)
  derivative_from (many a) v h = many_from a (x ∷ v) (then_from a (many a) v (derivative_from a) (chain_from (derivative x a) (many a) v h))

fits_to : (r : Shape) (i : ℕ) (v : List ℕ) → fault_from r i v ≡ Fits → Matches r v
unfolding fault_from
fits_to r i [] h = by (nullable r) (λ e. end_from r e) (λ e. absurd (no_breaks i (rw e at h)))
fits_to r i (x ∷ xs) h =
    by (dead (derivative x r)) (λ e. absurd (no_breaks i (rw e at h)))
    (λ e. derivative_from x r xs (fits_to (derivative x r) (i + 1) xs (rw e at h)))

-- a text has no fault exactly where it matches the shape
pub fits : (r : Shape) (v : List ℕ) → (fault_from r 0 v ≡ Fits) ↔ Matches r v
fits r v = (fits_to r 0 v, fits_from r 0 v)

-- v does not match the shape, and breaks off at n
abbrev pub Broken : Shape → List ℕ → ℕ → Type 0
Broken r v n = Dead (Matches r) v n

here : (r : Shape) (x : ℕ) (v : List ℕ) → dead r ≡ false → dead (derivative x r) ≡ true → Broken r (x ∷ v) 0
here r x v e f =
    record {
      unfit = λ k. dead_none (derivative x r) f v (derivative_to x r v k);
      inside = omega arith;
      goes_on = dead_some r e;
      no_more = λ h w k. dead_none (derivative x r) f w (derivative_to x r w k);
    }

later : (r : Shape) (x : ℕ) (v : List ℕ) (n : ℕ) → Broken (derivative x r) v n → Broken r (x ∷ v) (suc n)
later r x v n h =
    record {
      unfit = λ k. h.unfit (derivative_to x r v k);
      inside = omega (arith, h.inside);
      goes_on = (h.goes_on.0, h.goes_on.1, derivative_from x r (take n v ++ h.goes_on.0) h.goes_on.2);
      no_more = λ l w k. h.no_more (omega arith) w (derivative_to x r (take (suc n) v ++ w) k);
    }

same_place : (i k : ℕ) → Breaks i ≡ Breaks k → k ≡ i
same_place i k e = cc

broken_from : (r : Shape) (i : ℕ) (v : List ℕ) (k : ℕ) → dead r ≡ false → fault_from r i v ≡ Breaks k → (n : ℕ) × (k ≡ i + n) × Broken r v n
unfolding fault_from
broken_from r i [] k e h =
    by (nullable r) (λ f. absurd (no_breaks k (sym (rw f at h))))
    (λ f. (
      0,
      same_place i k (rw f at h) ∙ sym (add-zero i),
      record {
        unfit = λ l. no_breaks k (sym h ∙ fits_from r i [] l);
        inside = omega arith;
        goes_on = dead_some r e;
        no_more = λ l. absurd (omega arith);
      },
    ))
broken_from r i (x ∷ xs) k e h =
    by (dead (derivative x r))
    (λ f. (0, same_place i k (rw f at h) ∙ sym (add-zero i), here r x xs e f))
    (λ f. let y = broken_from (derivative x r) (i + 1) xs k f (rw f at h) in (suc y.0, omega (arith, y.1), later r x xs y.0 y.2))

either : (r : Shape) (i : ℕ) (v : List ℕ) → (fault_from r i v ≡ Fits) ⊎ ((k : ℕ) × (fault_from r i v ≡ Breaks k))
unfolding fault_from
either r i [] = by (nullable r) (λ e. inl (rw e)) (λ e. inr (i, rw e))
either r i (x ∷ xs) = by (dead (derivative x r)) (λ e. inr (i, rw e)) (λ e. rw e (either (derivative x r) (i + 1) xs))

-- a fault has the place n exactly where the text breaks there
pub breaks : (r : Shape) (v : List ℕ) (n : ℕ) → dead r ≡ false → (fault_from r 0 v ≡ Breaks n) ↔ Broken r v n
breaks r v n e = (to n, from)
  where
    to : (k : ℕ) → fault_from r 0 v ≡ Breaks k → Broken r v k
    to k h =
        let x = broken_from r 0 v k e h in
        subst (Broken r v) (sym (x.1 ∙ zero-add x.0)) x.2

    from : Broken r v n → fault_from r 0 v ≡ Breaks n
    from h =
        ⊎_elim
        (λ f. absurd (h.unfit (fits_to r 0 v f)))
        (λ f. f.1 ∙ ap Breaks (dead_once (Matches r) v f.0 n (to f.0 f.1) h))
        (either r 0 v)
