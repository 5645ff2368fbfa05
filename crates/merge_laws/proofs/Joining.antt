-- Pairs that are joined one after the other: they all are exactly where no line is in two of them. Assumes nothing.
use mathlib.Core.Path.{◌≡◌, refl, sym, ap, subst, ◌∙◌}
use mathlib.Core.Bool.{Bool, true, false, false≢true}
use mathlib.Core.List.{List, [], ◌∷◌}
use mathlib.Core.Logic.{◌⊎◌, inl, inr}
use Prim.Native.Nat.{ℕ, zero, suc, ◌+◌, ◌-◌, ◌<◌, ◌≤◌}
use native.Mathlib.Omega.{arith}
use lib.Dec.{eqb, ltb}
use lib.ListN.{length, get_or, set, length-set}
use borrow.Author.Tests.{ltb-true, lt-ltb, eqb-true, eqb-false, eq-eqb, ne_eqb}
use Rattle.octets.specs.Pick.{pick}
use Rattle.octets.proofs.Bools.{by}
use Rattle.merge_partners.specs.Pairs.{Pair, pair, Joined, joined, join_to, join_all}
use Rattle.merge_partners.proofs.JoinLaws.{join_stopped}
use Rattle.merge_words.specs.Lists.{Member}
use Rattle.merge_words.specs.Lists.Member.{here, there}
use Rattle.merge_laws.proofs.Lists.{pair_is}
use Rattle.merge_laws.proofs.Partners.{put_only, Two, Free, link, Done, done_none, done_kept, done_new}

pub ne_zero : (n : ℕ) → (n ≡ 0 → ⊥) → 1 ≤ n
ne_zero zero d = absurd (d refl)
ne_zero (suc n) d = omega arith

-- a test that has to hold for a step to be made
pub pick_ok : (b : Bool) (s : Joined) (p t : List ℕ) → (pick b s (joined false p t)).ok ≡ true → (b ≡ true) × (s.ok ≡ true)
pick_ok true s p t e = (refl, e)
pick_ok false s p t e = absurd (false≢true e)

module _ (p t : List ℕ) (i j : ℕ) where
  pub record Joins : Type 0 where
    pub low : i < 4096
    pub low_too : j < 4096
    pub how : (get_or p i 0 ≡ j + 1) ⊎ ((get_or p i 0 ≡ 0) × (get_or t j 0 ≡ 0))

  join_free : (pick (eqb (get_or p i 0) 0) (pick (eqb (get_or t j 0) 0) (joined true (set p i (j + 1)) (set t j (i + 1))) (joined false p t)) (joined false p t)).ok ≡ true
      → (get_or p i 0 ≡ 0) × (get_or t j 0 ≡ 0)
  join_free e =
      let a = pick_ok (eqb (get_or p i 0) 0) (pick (eqb (get_or t j 0) 0) (joined true (set p i (j + 1)) (set t j (i + 1))) (joined false p t)) p t e in
      let b = pick_ok (eqb (get_or t j 0) 0) (joined true (set p i (j + 1)) (set t j (i + 1))) p t a.1 in
      (eqb-true (get_or p i 0) 0 a.0, eqb-true (get_or t j 0) 0 b.0)

  join_how : (b : Bool) → eqb (get_or p i 0) (j + 1) ≡ b
      → (pick b (joined true p t)
      (pick (eqb (get_or p i 0) 0) (pick (eqb (get_or t j 0) 0) (joined true (set p i (j + 1)) (set t j (i + 1))) (joined false p t)) (joined false p t))).ok ≡ true
      → (get_or p i 0 ≡ j + 1) ⊎ ((get_or p i 0 ≡ 0) × (get_or t j 0 ≡ 0))
  join_how true q e = inl (eqb-true (get_or p i 0) (j + 1) q)
  join_how false q e = inr (join_free e)

  pub join_ok : (join_to p t i j).ok ≡ true → Joins
  unfolding join_to
  join_ok e =
      let a = pick_ok (ltb i 4096) _ p t e in
      let b = pick_ok (ltb j 4096) _ p t a.1 in
      record { low = ltb-true i 4096 a.0; low_too = ltb-true j 4096 b.0; how = join_how (eqb (get_or p i 0) (j + 1)) refl b.1 }

  module _ (low : i < 4096) (low_too : j < 4096) where
    pub join_kept : get_or p i 0 ≡ j + 1 → join_to p t i j ≡ joined true p t
    unfolding join_to
    join_kept e = rw (lt-ltb i 4096 low, lt-ltb j 4096 low_too, eq-eqb (get_or p i 0) (j + 1) e)

    pub join_new : get_or p i 0 ≡ 0 → get_or t j 0 ≡ 0 → join_to p t i j ≡ joined true (set p i (j + 1)) (set t j (i + 1))
    unfolding join_to
    join_new e f =
        let d : get_or p i 0 ≡ j + 1 → ⊥ = λ g. absurd (omega arith) in
        rw (lt-ltb i 4096 low, lt-ltb j 4096 low_too, ne_eqb (get_or p i 0) (j + 1) d, eq-eqb (get_or p i 0) 0 e, eq-eqb (get_or t j 0) 0 f)

-- partners of 4,096 lines that agree
pub record Sound (p t : List ℕ) : Type 0 where
  pub size : length p ≡ 4096
  pub size_too : length t ≡ 4096
  pub two : Two p t

pub free_of : {p t : List ℕ} {i j : ℕ} → Sound p t → i < 4096 → j < 4096 → get_or p i 0 ≡ 0 → get_or t j 0 ≡ 0 → Free p t i j
free_of s h k e f = record { low = omega (arith, h, s.size); low_too = omega (arith, k, s.size_too); none = e; none_too = f }

pub sound_new : (p t : List ℕ) (i j : ℕ) → Free p t i j → Sound p t → Sound (set p i (j + 1)) (set t j (i + 1))
sound_new p t i j f s =
    record { size = length-set p i (j + 1) ∙ s.size; size_too = length-set t j (i + 1) ∙ s.size_too; two = link p t i j f s.two }

-- what was joined, where all were
module _ (q : Pair) (qs : List Pair) (p t : List ℕ) (s : Sound p t)
    (rest : (p' t' : List ℕ) → Sound p' t' → (join_all (joined true p' t') qs).ok ≡ true → Done qs p' (join_all (joined true p' t') qs)) where
  abbrev Step : Joined
  Step = join_to p t q.left q.right

  step_from : (z : Joined) → Step ≡ z → (join_all Step qs).ok ≡ true → ((join_all z qs).ok ≡ true → Done (q ∷ qs) p (join_all z qs)) → Done (q ∷ qs) p (join_all Step qs)
  step_from z g e f = subst (λ (y : Joined). Done (q ∷ qs) p (join_all y qs)) (sym g) (f (subst (λ (y : Joined). (join_all y qs).ok ≡ true) g e))

  step_how : (join_all Step qs).ok ≡ true → q.left < 4096 → q.right < 4096
      → (get_or p q.left 0 ≡ q.right + 1) ⊎ ((get_or p q.left 0 ≡ 0) × (get_or t q.right 0 ≡ 0)) → Done (q ∷ qs) p (join_all Step qs)
  step_how e h k (inl g) =
      step_from (joined true p t) (join_kept p t q.left q.right h k g) e (λ o. done_kept q qs p (join_all (joined true p t) qs) g (rest p t s o))
  step_how e h k (inr (g, f)) =
      let free : Free p t q.left q.right = free_of s h k g f in
      let p' : List ℕ = set p q.left (q.right + 1) in
      let t' : List ℕ = set t q.right (q.left + 1) in
      step_from (joined true p' t') (join_new p t q.left q.right h k g f) e
      (λ o. done_new q qs p t (join_all (joined true p' t') qs) free (rest p' t' (sound_new p t q.left q.right free s) o))

  join_step : (join_all Step qs).ok ≡ true → Done (q ∷ qs) p (join_all Step qs)
  join_step e =
      by Step.ok
      (λ h.
      let js = join_ok p t q.left q.right h in
      step_how e js.low js.low_too js.how)
      (λ h. absurd (false≢true (sym h ∙ sym (ap (λ (z : Joined). z.ok) (join_stopped Step h qs)) ∙ e)))

pub joined_all : (qs : List Pair) (p t : List ℕ) → Sound p t → (join_all (joined true p t) qs).ok ≡ true → Done qs p (join_all (joined true p t) qs)
unfolding join_all
joined_all [] p t s e = done_none p t s.two
joined_all (q ∷ qs) p t s e = join_step q qs p t s (joined_all qs) e

-- no line is in two different pairs of the list
abbrev pub Apart : List Pair → Type 0
Apart qs = (q r : Pair) → Member q qs → Member r qs → (q.left ≡ r.left → q.right ≡ r.right) × (q.right ≡ r.right → q.left ≡ r.left)

-- where all were joined, none is
pub done_apart : (qs : List Pair) (p : List ℕ) (s : Joined) → Done qs p s → Apart qs
done_apart qs p s d q r h k =
    let a = d.took q.left q.right h in
    let b = d.took r.left r.right k in
    let c = d.two.forth q.left q.right a in
    let e = d.two.forth r.left r.right b in
    (λ g. omega (arith, a, b, ap (λ (n : ℕ). get_or s.first n 0) g), λ g. omega (arith, c, e, ap (λ (n : ℕ). get_or s.second n 0) g))

-- each pair is of lines that there can be
abbrev pub Low : List Pair → Type 0
Low qs = (q : Pair) → Member q qs → (q.left < 4096) × (q.right < 4096)

-- and where none is, all are joined
module _ (all : List Pair) (apart : Apart all) (low : Low all) where
  -- the partners so far are of these pairs
  pub record Half (p t : List ℕ) : Type 0 where
    pub sound : Sound p t
    pub of : (i j : ℕ) → get_or p i 0 ≡ j + 1 → Member (pair i j) all

  module _ (q : Pair) (m : Member q all) (p t : List ℕ) (h : Half p t) where
    -- a first line that has another partner, and a second one
    not_first : (get_or p q.left 0 ≡ q.right + 1 → ⊥) → get_or p q.left 0 ≡ 0
    not_first d =
        by (eqb (get_or p q.left 0) 0)
        (λ e. eqb-true (get_or p q.left 0) 0 e)
        (λ e.
        let n = eqb-false (get_or p q.left 0) 0 e in
        let w : ℕ = get_or p q.left 0 - 1 in
        let g : get_or p q.left 0 ≡ w + 1 = omega (arith, ne_zero (get_or p q.left 0) n) in
        let same = (apart q (pair q.left w) m (h.of q.left w g)).0 refl in
        absurd (d (g ∙ ap (λ (k : ℕ). k + 1) (sym same))))

    not_second : (get_or p q.left 0 ≡ q.right + 1 → ⊥) → get_or t q.right 0 ≡ 0
    not_second d =
        by (eqb (get_or t q.right 0) 0)
        (λ e. eqb-true (get_or t q.right 0) 0 e)
        (λ e.
        let n = eqb-false (get_or t q.right 0) 0 e in
        let w : ℕ = get_or t q.right 0 - 1 in
        let g : get_or t q.right 0 ≡ w + 1 = omega (arith, ne_zero (get_or t q.right 0) n) in
        let f : get_or p w 0 ≡ q.right + 1 = h.sound.two.back q.right w g in
        let same : q.left ≡ w = (apart q (pair w q.right) m (h.of w q.right f)).1 refl in
        absurd (d (ap (λ (k : ℕ). get_or p k 0) same ∙ f)))

  pub half_new : (q : Pair) → Member q all → (p t : List ℕ) → Free p t q.left q.right → Half p t → Half (set p q.left (q.right + 1)) (set t q.right (q.left + 1))
  half_new q m p t f h =
      record { sound = sound_new p t q.left q.right f h.sound; of = λ i j e. go i j (put_only p q.left (q.right + 1) f.low f.none i j e) }
    where
      go : (i j : ℕ) → ((i ≡ q.left) × (q.right + 1 ≡ j + 1)) ⊎ (get_or p i 0 ≡ j + 1) → Member (pair i j) all
      go i j (inl (e, g)) = subst (λ (z : Pair). Member z all) (pair_is q i j (sym e) (omega arith)) m
      go i j (inr e) = h.of i j e

  pub apart_joins : (qs : List Pair) → ((q : Pair) → Member q qs → Member q all) → (p t : List ℕ) → Half p t → (join_all (joined true p t) qs).ok ≡ true
  unfolding join_all
  apart_joins [] sub p t h = refl
  apart_joins (q ∷ qs) sub p t h =
      let m : Member q all = sub q here in
      let b = low q m in
      by (eqb (get_or p q.left 0) (q.right + 1))
      (λ e.
      let k = join_kept p t q.left q.right b.0 b.1 (eqb-true (get_or p q.left 0) (q.right + 1) e) in
      subst (λ (z : Joined). (join_all z qs).ok ≡ true) (sym k) (apart_joins qs (λ r n. sub r (there n)) p t h))
      (λ e.
      let d = eqb-false (get_or p q.left 0) (q.right + 1) e in
      let x = not_first q m p t h d in
      let y = not_second q m p t h d in
      let free : Free p t q.left q.right = free_of h.sound b.0 b.1 x y in
      let k = join_new p t q.left q.right b.0 b.1 x y in
      subst (λ (z : Joined). (join_all z qs).ok ≡ true) (sym k)
      (apart_joins qs (λ r n. sub r (there n)) (set p q.left (q.right + 1)) (set t q.right (q.left + 1)) (half_new q m p t free h)))
