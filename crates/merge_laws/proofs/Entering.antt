-- A plan's pairs that are entered one after the other: they all are exactly where each may stand in the plan and no line stands twice. Assumes nothing.
use mathlib.Core.Path.{◌≡◌, refl, sym, ap, subst, ◌∙◌}
use mathlib.Core.Bool.{Bool, true, false, false≢true}
use mathlib.Core.List.{List, [], ◌∷◌}
use mathlib.Core.Logic.{◌⊎◌, inl, inr}
use Prim.Native.Nat.{ℕ, ◌+◌, ◌<◌}
use native.Mathlib.Omega.{arith}
use lib.Dec.{eqb, ltb}
use lib.ListN.{get_or, set}
use borrow.Author.Tests.{ltb-true, lt-ltb, eqb-true, eq-eqb}
use Rattle.octets.proofs.Bools.{by}
use Rattle.merge_sides.specs.Lines.{same_property}
use Rattle.merge_partners.specs.Pairs.{Pair, pair, Joined, joined}
use Rattle.merge.specs.Plans.{flatten, enter_to, enter_step, enter_all}
use Rattle.merge.proofs.EnterLaws.{enter_stopped}
use Rattle.merge_words.specs.Lists.{Member}
use Rattle.merge_words.specs.Lists.Member.{here, there}
use Rattle.merge_words.proofs.Members.{member_cases, member_none}
use Rattle.merge_laws.proofs.Lists.{Once, Away, once_none, once_cons, once_head, once_tail}
use Rattle.merge_laws.proofs.Partners.{put_new, put_other, Free, Done, done_none, done_new}
use Rattle.merge_laws.proofs.Joining.{pick_ok, Sound, free_of, sound_new}

module _ (ca ra : List ℕ) (na : ℕ) (cb rb : List ℕ) (nb : ℕ) where
  -- a pair of lines of both cards, of one property
  pub record Fits (q : Pair) : Type 0 where
    pub left : q.left < na
    pub right : q.right < nb
    pub few : q.left < 4096
    pub few_too : q.right < 4096
    pub property : same_property ca ra q.left cb rb q.right ≡ true

  abbrev pub Each : List Pair → Type 0
  Each qs = (q : Pair) → Member q qs → Fits q

  module _ (p t : List ℕ) (q : Pair) where
    abbrev Step : Joined
    Step = enter_step ca ra na cb rb nb p t q.left q.right

    abbrev P : List ℕ
    P = set p q.left (q.right + 1)

    abbrev T : List ℕ
    T = set t q.right (q.left + 1)

    step_ok : Step.ok ≡ true → Fits q × (get_or p q.left 0 ≡ 0) × (get_or t q.right 0 ≡ 0)
    unfolding enter_step enter_to
    step_ok h =
        let a = pick_ok (same_property ca ra q.left cb rb q.right) _ p t h in
        let b = pick_ok (ltb q.left na) _ p t a.1 in
        let c = pick_ok (ltb q.right nb) _ p t b.1 in
        let d = pick_ok (ltb q.left 4096) _ p t c.1 in
        let e = pick_ok (ltb q.right 4096) _ p t d.1 in
        let f = pick_ok (eqb (get_or p q.left 0) 0) _ p t e.1 in
        let g = pick_ok (eqb (get_or t q.right 0) 0) _ p t f.1 in (
          record { left = ltb-true q.left na b.0; right = ltb-true q.right nb c.0; few = ltb-true q.left 4096 d.0; few_too = ltb-true q.right 4096 e.0; property = a.0 },
          eqb-true (get_or p q.left 0) 0 f.0,
          eqb-true (get_or t q.right 0) 0 g.0,
        )

    step_new : Fits q → get_or p q.left 0 ≡ 0 → get_or t q.right 0 ≡ 0 → Step ≡ joined true P T
    unfolding enter_step enter_to
    step_new f e g =
        rw (f.property, lt-ltb q.left na f.left, lt-ltb q.right nb f.right, lt-ltb q.left 4096 f.few, lt-ltb q.right 4096 f.few_too, eq-eqb (get_or p q.left 0) 0 e, eq-eqb (get_or t q.right 0) 0 g)

  abbrev All : Joined → List ℕ → Joined
  All = enter_all ca ra na cb rb nb

  -- no line of these pairs has a partner
  abbrev pub Fresh : List Pair → List ℕ → List ℕ → Type 0
  Fresh qs p t = (r : Pair) → Member r qs → (get_or p r.left 0 ≡ 0) × (get_or t r.right 0 ≡ 0)

  -- what was entered, where all were
  pub record Entered (qs : List Pair) (p t : List ℕ) (s : Joined) : Type 0 where
    pub done : Done qs p s
    pub each : Each qs
    pub once : Once qs
    pub fresh : Fresh qs p t

  module _ (q : Pair) (qs : List Pair) (p t : List ℕ) (free : Free p t q.left q.right) where
    fresh_away : Fresh qs (P p t q) (T p t q) → Away q qs
    fresh_away f r m =
        let z = f r m in
        let a = put_new p q.left (q.right + 1) free.low free.none in
        let b = put_new t q.right (q.left + 1) free.low_too free.none_too in
        (λ e. omega (arith, a, z.0, ap (λ (n : ℕ). get_or (P p t q) n 0) e), λ e. omega (arith, b, z.1, ap (λ (n : ℕ). get_or (T p t q) n 0) e))

    fresh_put : Away q qs → (r : Pair) → Member r qs → (get_or (P p t q) r.left 0 ≡ get_or p r.left 0) × (get_or (T p t q) r.right 0 ≡ get_or t r.right 0)
    fresh_put a r m =
        let z = a r m in (
          put_other p q.left (q.right + 1) free.low free.none r.left (λ e. z.0 (sym e)),
          put_other t q.right (q.left + 1) free.low_too free.none_too r.right (λ e. z.1 (sym e)),
        )

    fresh_cons : Away q qs → Fresh qs (P p t q) (T p t q) → Fresh (q ∷ qs) p t
    fresh_cons a f r m = go (member_cases m)
      where
        go : (r ≡ q) ⊎ Member r qs → (get_or p r.left 0 ≡ 0) × (get_or t r.right 0 ≡ 0)
        go (inl e) = subst (λ (z : Pair). (get_or p z.left 0 ≡ 0) × (get_or t z.right 0 ≡ 0)) (sym e) (free.none, free.none_too)
        go (inr n) =
            let z = fresh_put a r n in
            (sym z.0 ∙ (f r n).0, sym z.1 ∙ (f r n).1)

    fresh_tail : Away q qs → Fresh (q ∷ qs) p t → Fresh qs (P p t q) (T p t q)
    fresh_tail a f r m =
        let z = fresh_put a r m in
        (z.0 ∙ (f r (there m)).0, z.1 ∙ (f r (there m)).1)

    each_cons : Fits q → Each qs → Each (q ∷ qs)
    each_cons f e r m = go (member_cases m)
      where
        go : (r ≡ q) ⊎ Member r qs → Fits r
        go (inl g) = subst Fits (sym g) f
        go (inr n) = e r n

    entered_cons : (s : Joined) → Fits q → Entered qs (P p t q) (T p t q) s → Entered (q ∷ qs) p t s
    entered_cons s f e =
        let a = fresh_away e.fresh in
        record {
          done = done_new q qs p t s free e.done;
          each = each_cons f e.each;
          once = once_cons q qs a e.once;
          fresh = fresh_cons a e.fresh;
        }

  module _ (q : Pair) (qs : List Pair) (p t : List ℕ) (s : Sound p t)
      (rest : (p' t' : List ℕ) → Sound p' t' → (All (joined true p' t') (flatten qs)).ok ≡ true → Entered qs p' t' (All (joined true p' t') (flatten qs))) where
    entered_step : (All (Step p t q) (flatten qs)).ok ≡ true → Entered (q ∷ qs) p t (All (Step p t q) (flatten qs))
    entered_step e =
        by (Step p t q).ok
        (λ h.
        let k = step_ok p t q h in
        let free : Free p t q.left q.right = free_of s k.0.few k.0.few_too k.1 k.2 in
        let new = step_new p t q k.0 k.1 k.2 in
        let o = subst (λ (z : Joined). (All z (flatten qs)).ok ≡ true) new e in
        subst (λ (z : Joined). Entered (q ∷ qs) p t (All z (flatten qs))) (sym new)
        (entered_cons q qs p t free (All (joined true (P p t q) (T p t q)) (flatten qs)) k.0 (rest (P p t q) (T p t q) (sound_new p t q.left q.right free s) o)))
        (λ h. absurd (false≢true (sym (stays (Step p t q) h) ∙ e)))
      where
        stays : (z : Joined) → z.ok ≡ false → (All z (flatten qs)).ok ≡ false
        stays z h = ap (λ (b : Bool). (All (joined b z.first z.second) (flatten qs)).ok) h ∙ ap (λ (y : Joined). y.ok) (enter_stopped ca ra na cb rb nb z.first z.second (flatten qs))

  pub entered_all : (qs : List Pair) (p t : List ℕ) → Sound p t → (All (joined true p t) (flatten qs)).ok ≡ true → Entered qs p t (All (joined true p t) (flatten qs))
  unfolding enter_all flatten
  entered_all [] p t s e = record { done = done_none p t s.two; each = λ q m. member_none m refl; once = once_none; fresh = λ q m. member_none m refl }
  entered_all (q ∷ qs) p t s e = entered_step q qs p t s (entered_all qs) e

  -- pairs that may stand in a plan are entered
  pub enter_each : (qs : List Pair) (p t : List ℕ) → Sound p t → Each qs → Once qs → Fresh qs p t → (All (joined true p t) (flatten qs)).ok ≡ true
  unfolding enter_all flatten
  enter_each [] p t s e o f = refl
  enter_each (q ∷ qs) p t s e o f =
      let fit : Fits q = e q here in
      let z = f q here in
      let free : Free p t q.left q.right = free_of s fit.few fit.few_too z.0 z.1 in
      subst (λ (y : Joined). (All y (flatten qs)).ok ≡ true) (sym (step_new p t q fit z.0 z.1))
      (enter_each qs (P p t q) (T p t q) (sound_new p t q.left q.right free s) (λ r m. e r (there m)) (once_tail q qs o) (fresh_tail q qs p t free (once_head q qs o) f))

  -- a plan that is entered is pairs
  pub enter_even : (plan : List ℕ) (s : Joined) → (All s plan).ok ≡ true → (qs : List Pair) × (plan ≡ flatten qs)
  unfolding enter_all flatten
  enter_even [] s e = ([], refl)
  enter_even (x ∷ []) s e = absurd (false≢true e)
  enter_even (x ∷ y ∷ r) s e =
      by s.ok
      (λ h.
      let k = enter_even r (enter_step ca ra na cb rb nb s.first s.second x y) (rw h at e) in
      (pair x y ∷ k.0, ap (λ (l : List ℕ). x ∷ y ∷ l) k.1))
      (λ h. absurd (false≢true (rw h at e)))
