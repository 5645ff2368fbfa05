-- The pairs of a list of partners, in line order, and partners that another list has too. Assumes nothing.
use mathlib.Core.Path.{◌≡◌, refl, sym, ap, subst, ◌∙◌}
use mathlib.Core.Bool.{true, false, false≢true}
use mathlib.Core.List.{List}
use mathlib.Core.Logic.{◌⊎◌, inl, inr}
use Prim.Native.Nat.{ℕ, zero, suc, ◌+◌, ◌-◌, ◌<◌, ◌≤◌}
use native.Mathlib.Omega.{arith}
use lib.Dec.{eqb, ltb}
use lib.ListN.{get_or}
use borrow.Author.Tests.{ltb-true, ltb-false, eqb-true, eqb-false, eq-eqb, ne_eqb}
use Rattle.octets.proofs.Bools.{by}
use Rattle.merge_partners.specs.Pairs.{Pair, pair, pairs_from}
use Rattle.merge.specs.Plans.{is_kept, covers_from}
use Rattle.merge_words.specs.Lists.{Member}
use Rattle.merge_words.specs.Lists.Member.{there}
use Rattle.merge_words.proofs.Members.{member_cases, member_none, at_member}
use Rattle.merge_laws.proofs.Lists.{head_is, Once, Rises, rises_none, rises_cons}
use Rattle.merge_laws.proofs.Partners.{Two}
use Rattle.merge_laws.proofs.Joining.{ne_zero}

-- a pair of k lines from i on
pub record Of (p : List ℕ) (i k : ℕ) (q : Pair) : Type 0 where
  pub from : i ≤ q.left
  pub below : q.left < i + k
  pub has : get_or p q.left 0 ≡ q.right + 1

module _ (p : List ℕ) where
  later : (i k : ℕ) (q : Pair) → Of p (i + 1) k q → Of p i (suc k) q
  later i k q o = record { from = omega (arith, o.from); below = omega (arith, o.below); has = o.has }

  pub from_member : (k i : ℕ) (q : Pair) → Member q (pairs_from p i k) → Of p i k q
  unfolding pairs_from
  from_member zero i q m = member_none m refl
  from_member (suc k) i q m =
      by (eqb (get_or p i 0) 0)
      (λ e. later i k q (from_member k (i + 1) q (rw e at m)))
      (λ e. head e (member_cases (rw e at m)) (from_member k (i + 1) q))
    where
      head : eqb (get_or p i 0) 0 ≡ false → (q ≡ pair i (get_or p i 0 - 1)) ⊎ Member q (pairs_from p (i + 1) k) → (Member q (pairs_from p (i + 1) k) → Of p (i + 1) k q) → Of p i (suc k) q
      head e (inl g) f =
          subst (Of p i (suc k)) (sym g)
          (record { from = omega arith; below = omega arith; has = omega (arith, ne_zero (get_or p i 0) (eqb-false (get_or p i 0) 0 e)) })
      head e (inr n) f = later i k q (f n)

  pub member_from : (k i : ℕ) (q : Pair) → Of p i k q → Member q (pairs_from p i k)
  unfolding pairs_from
  member_from zero i q o = absurd (omega (arith, o.from, o.below))
  member_from (suc k) i q o =
      by (eqb i q.left)
      (λ e.
      let s : i ≡ q.left = eqb-true i q.left e in
      let v : get_or p i 0 ≡ q.right + 1 = ap (λ (n : ℕ). get_or p n 0) s ∙ o.has in
      let f : eqb (get_or p i 0) 0 ≡ false = ne_eqb (get_or p i 0) 0 (λ z. absurd (omega (arith, z, v))) in
      rw f (head_is (pair i (get_or p i 0 - 1)) (pairs_from p (i + 1) k) q.left q.right s (omega (arith, v))))
      (λ e.
      let d = eqb-false i q.left e in
      let on : Of p (i + 1) k q = record { from = omega (arith, o.from, d); below = omega (arith, o.below); has = o.has } in
      by (eqb (get_or p i 0) 0)
      (λ f. rw f (member_from k (i + 1) q on))
      (λ f. rw f (there (member_from k (i + 1) q on))))

  pub from_rises : (k i : ℕ) → Rises (pairs_from p i k)
  unfolding pairs_from
  from_rises zero i = rises_none
  from_rises (suc k) i =
      by (eqb (get_or p i 0) 0)
      (λ e. rw e (from_rises k (i + 1)))
      (λ e. rw e (rises_cons (pair i (get_or p i 0 - 1)) (pairs_from p (i + 1) k) (λ r m. omega (arith, (from_member k (i + 1) r m).from)) (from_rises k (i + 1))))

  -- where the partners agree with those of the second card's lines, no line stands twice
  pub from_once : (t : List ℕ) → Two p t → (k i : ℕ) → Once (pairs_from p i k)
  from_once t two k i m n q r h g d =
      let a = (from_member k i q (at_member h)).has in
      let b = (from_member k i r (at_member g)).has in
      let u = two.forth q.left q.right a in
      let v = two.forth r.left r.right b in
      let apart : q.left ≡ r.left → ⊥ = λ e. unequal m n d (λ l. omega (arith, from_rises k i m n q r h g l, e)) (λ l. omega (arith, from_rises k i n m r q g h l, e)) in
      (apart, λ e. apart (omega (arith, u, v, ap (λ (z : ℕ). get_or t z 0) e)))
    where
      unequal : (m n : ℕ) → (m ≡ n → ⊥) → (m < n → ⊥) → (n < m → ⊥) → ⊥
      unequal m n d f g = by (ltb m n) (λ e. f (omega (arith, ltb-true m n e))) (λ e. by (ltb n m) (λ z. g (ltb-true n m z)) (λ z. d (omega (arith, ltb-false m n e, ltb-false n m z))))

-- each partner in p is one in q
module _ (p q : List ℕ) where
  kept_true : (n : ℕ) → is_kept (get_or p n 0) (get_or q n 0) ≡ true → (j : ℕ) → get_or p n 0 ≡ j + 1 → get_or q n 0 ≡ j + 1
  unfolding is_kept
  kept_true n e j h =
      let f : eqb (get_or p n 0) 0 ≡ false = ne_eqb (get_or p n 0) 0 (λ z. absurd (omega (arith, z, h))) in
      sym (eqb-true (get_or p n 0) (get_or q n 0) (rw f at e)) ∙ h

  pub covers_true : (k i : ℕ) → covers_from p q i k ≡ true → (n : ℕ) → i ≤ n → n < i + k → (j : ℕ) → get_or p n 0 ≡ j + 1 → get_or q n 0 ≡ j + 1
  unfolding covers_from
  covers_true zero i e n f b j h = absurd (omega arith)
  covers_true (suc k) i e n f b j h =
      by (is_kept (get_or p i 0) (get_or q i 0))
      (λ z.
      by (eqb i n)
      (λ s.
      let w : i ≡ n = eqb-true i n s in
      kept_true n (subst (λ (m : ℕ). is_kept (get_or p m 0) (get_or q m 0) ≡ true) w z) j h)
      (λ s. covers_true k (i + 1) (rw z at e) n (omega (arith, eqb-false i n s)) (omega arith) j h))
      (λ z. absurd (false≢true (rw z at e)))

  kept_all : ((n j : ℕ) → get_or p n 0 ≡ j + 1 → get_or q n 0 ≡ j + 1) → (n : ℕ) → is_kept (get_or p n 0) (get_or q n 0) ≡ true
  unfolding is_kept
  kept_all f n =
      by (eqb (get_or p n 0) 0)
      (λ e. rw e)
      (λ e.
      let j : ℕ = get_or p n 0 - 1 in
      let h : get_or p n 0 ≡ j + 1 = omega (arith, ne_zero (get_or p n 0) (eqb-false (get_or p n 0) 0 e)) in
      rw e (eq-eqb (get_or p n 0) (get_or q n 0) (h ∙ sym (f n j h))))

  pub covers_all : ((n j : ℕ) → get_or p n 0 ≡ j + 1 → get_or q n 0 ≡ j + 1) → (k i : ℕ) → covers_from p q i k ≡ true
  unfolding covers_from
  covers_all f zero i = refl
  covers_all f (suc k) i = rw (kept_all f i) (covers_all f k (i + 1))
