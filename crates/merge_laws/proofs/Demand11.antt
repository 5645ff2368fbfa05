-- Demand 11, by what there is to say of any two inputs and rows. Assumes nothing.
use mathlib.Core.Path.{◌≡◌, refl, sym, ap, subst, ◌∙◌}
use mathlib.Core.List.{List, [], ◌∷◌}
use mathlib.Core.Logic.{◌⊎◌, inl, inr}
use Prim.Native.Nat.{ℕ, ◌*◌, ◌/◌, ◌<◌, ◌≤◌}
use native.Mathlib.Omega.{arith}
use lib.Dec.{ltb}
use lib.ListN.{length, take, drop}
use lib.Seq.{take_at}
use borrow.Author.Tests.{ltb-true, ltb-false, lt-ltb, le-ltb}
use Rattle.octets.specs.Pick.{pick}
use Rattle.octets.specs.Room.{overlay}
use Rattle.octets.proofs.Bools.{by, clash}
use Rattle.reader_grammar.specs.Refusals.{Judging}
use Rattle.reader_grammar.proofs.Numbers.{refusal_number}
use Rattle.merge_sources.specs.declared.Source.{Source}
use Rattle.merge_partners.specs.Pairs.{Pair}
use Rattle.merge.specs.Plans.{flatten}
use Rattle.merge.specs.Outcome.{Planned, planned, plan_outcome, check_outcome}
use Rattle.merge.specs.Paired.{Paired, Pairs, Refused}
use Rattle.merge.proofs.WriteLaws.{flatten_length}
use Rattle.merge_words.specs.Lists.{Member}
use Rattle.merge_words.specs.Lists.Member.{here, there}
use Rattle.merge_laws.specs.Demand11.{Both, TooMuch, WrongRow, Ready, Passing, Proposed, Judged, Demand11}
use Rattle.merge_laws.specs.Demand11.Judged.{first, second}
use Rattle.merge_words.proofs.Members.{member_cases, member_none}
use Rattle.merge_laws.proofs.Lists.{Rises, rises_head, rises_tail}
use Rattle.merge_laws.proofs.Pairing.{Refuses, judged_refuses, over_refuses, row_refuses, Fate, fate, View, view}
use Rattle.merge_laws.proofs.Pairing.Fate.{none, some}
use Rattle.merge_laws.proofs.Pairing.View.{judged, over, wrong, ready}

-- two lists that rise and have the same pairs are equal
abbrev Sub : List Pair → List Pair → Type 0
Sub ps qs = (q : Pair) → Member q ps → Member q qs

heads_equal : (p q : Pair) (ps qs : List Pair) → Rises (p ∷ ps) → Rises (q ∷ qs) → Sub (p ∷ ps) (q ∷ qs) → Sub (q ∷ qs) (p ∷ ps) → p ≡ q
heads_equal p q ps qs f g a b = go (member_cases (a p here)) (member_cases (b q here))
  where
    go : (p ≡ q) ⊎ Member p qs → (q ≡ p) ⊎ Member q ps → p ≡ q
    go (inl e) h = e
    go (inr h) (inl e) = sym e
    go (inr h) (inr k) = absurd (omega (arith, rises_head q qs g p h, rises_head p ps f q k))

tails_sub : (p : Pair) (ps qs : List Pair) → Rises (p ∷ ps) → Sub (p ∷ ps) (p ∷ qs) → Sub ps qs
tails_sub p ps qs f a r h = go (member_cases (a r (there h)))
  where
    go : (r ≡ p) ⊎ Member r qs → Member r qs
    go (inl e) = absurd (omega (arith, rises_head p ps f r h, ap (λ (z : Pair). z.left) e))
    go (inr k) = k

rises_equal : (ps qs : List Pair) → Rises ps → Rises qs → Sub ps qs → Sub qs ps → ps ≡ qs
rises_equal [] [] f g a b = refl
rises_equal [] (q ∷ qs) f g a b = member_none (b q here) refl
rises_equal (p ∷ ps) [] f g a b = member_none (a p here) refl
rises_equal (p ∷ ps) (q ∷ qs) f g a b =
    let e : p ≡ q = heads_equal p q ps qs f g a b in
    let a' : Sub (p ∷ ps) (p ∷ qs) = subst (λ (z : Pair). Sub (p ∷ ps) (z ∷ qs)) (sym e) a in
    let b' : Sub (p ∷ qs) (p ∷ ps) = subst (λ (z : Pair). Sub (z ∷ qs) (p ∷ ps)) (sym e) b in
    let g' : Rises (p ∷ qs) = subst (λ (z : Pair). Rises (z ∷ qs)) (sym e) g in
    ap (λ (z : Pair). z ∷ ps) e ∙ ap (λ (l : List Pair). q ∷ l) (rises_equal ps qs (rises_tail p ps f) (rises_tail p qs g') (tails_sub p ps qs f a') (tails_sub p qs ps g' b'))

-- what is proposed is one list
one_proposal : {i j : List ℕ} {m n : List Source} (r : Ready i j m n) (ps qs : List Pair) → Proposed r ps → Proposed r qs → ps ≡ qs
one_proposal r ps qs f g =
    rises_equal ps qs f.rises g.rises (λ q h. g.each q.left q.right (f.alone q h)) (λ q h. f.each q.left q.right (g.alone q h))

-- numbers of refusals
judge_low : {a : ℕ} → Judging a → a ≤ 43
judge_low (inl h) = omega (arith, h.1)
judge_low (inr (inl h)) = omega (arith, h.1)
judge_low (inr (inr h)) = omega (arith, h.1)

not_fourteen : {a : ℕ} → Judging a → a ≡ 14 → ⊥
not_fourteen (inl h) e = omega (arith, h.1)
not_fourteen (inr (inl h)) e = omega (arith, h.1)
not_fourteen (inr (inr h)) e = omega (arith, h.0)

judged_number : {i j : List ℕ} {a p : ℕ} → Judged i j a p → Judging a
judged_number (first h) = refusal_number h
judged_number (second k n h g) = refusal_number g

number_of : {a b p q : ℕ} → Refused a p ≡ Refused b q → a ≡ b
number_of e = cc

place_of : {a b p q : ℕ} → Refused a p ≡ Refused b q → p ≡ q
place_of e = cc

never : {A : Type 0} {k a p : ℕ} → Pairs k ≡ Refused a p → A
never e = clash cc

other : {A : Type 0} {a b p q : ℕ} → (a ≡ b → ⊥) → Refused a p ≡ Refused b q → A
other d e = absurd (d (number_of e))

answer_of : {a b : Paired} {x y : List ℕ} → planned a x ≡ planned b y → a ≡ b
answer_of e = ap (λ (z : Planned). z.answer) e

room_of : {a b : Paired} {x y : List ℕ} → planned a x ≡ planned b y → x ≡ y
room_of e = ap (λ (z : Planned). z.room) e

-- a plan that passes has two numbers a pair
plan_even : {i j : List ℕ} {m n : List Source} (r : Ready i j m n) (plan : List ℕ) → Passing r plan → length plan ≡ length plan / 2 * 2
plan_even r plan p = omega (arith, ap length p.flat, flatten_length p.pairs)

module _ (i j : List ℕ) (m n : List Source) where
  abbrev Check : List ℕ → Paired
  Check plan = check_outcome i j m n plan

  abbrev PlanIn : List ℕ → Planned
  PlanIn out = plan_outcome i j m n out

  -- the view by what the checker answers for a plan
  pub data Seen (plan : List ℕ) : Type 0 where
    refused : (a p : ℕ) → Judged i j a p → Check plan ≡ Refused a p → Seen plan
    limit : (b : Both i j) → TooMuch b m n → Check plan ≡ Refused 71 0 → Seen plan
    row : (b : Both i j) → (TooMuch b m n → ⊥) → WrongRow b m n → Check plan ≡ Refused 72 0 → Seen plan
    nothing : (r : Ready i j m n) → ((p : List ℕ) → Passing r p → ⊥) → Check plan ≡ Refused 70 0 → Seen plan
    passed : (r : Ready i j m n) → Passing r plan → Check plan ≡ Pairs (length plan / 2) → Seen plan
    failed : (r : Ready i j m n) → (Passing r plan → ⊥) → (p : List ℕ) → Passing r p → Check plan ≡ Refused 73 0 → Seen plan

  by_fate : (plan : List ℕ) (r : Ready i j m n) → Fate r → Seen plan
  by_fate plan r (none without f) = nothing r without (f.check plan)
  by_fate plan r (some ps pr c pl) = by_check (c plan)
    where
      by_check : (Passing r plan × (Check plan ≡ Pairs (length plan / 2))) ⊎ ((Passing r plan → ⊥) × (Check plan ≡ Refused 73 0)) → Seen plan
      by_check (inl (p, e)) = passed r p e
      by_check (inr (d, e)) = failed r d (flatten ps) pr.passes e

  by_view : (plan : List ℕ) → View i j m n → Seen plan
  by_view plan (judged a p h) = refused a p h ((judged_refuses i j m n a p h).check plan)
  by_view plan (over b o) = limit b o ((over_refuses i j m n b o).check plan)
  by_view plan (wrong b w r) = row b w r ((row_refuses i j m n b w r).check plan)
  by_view plan (ready r) = by_fate plan r (fate i j m n r)

  seen : (plan : List ℕ) → Seen plan
  seen plan = by_view plan (view i j m n)

  -- what a ready pair's plan gets
  check_passing : (r : Ready i j m n) (plan : List ℕ) → Passing r plan → Check plan ≡ Pairs (length plan / 2)
  check_passing r plan p = by_it (fate i j m n r)
    where
      by_check : (Passing r plan × (Check plan ≡ Pairs (length plan / 2))) ⊎ ((Passing r plan → ⊥) × (Check plan ≡ Refused 73 0)) → Check plan ≡ Pairs (length plan / 2)
      by_check (inl (q, e)) = e
      by_check (inr (d, e)) = absurd (d p)

      by_it : Fate r → Check plan ≡ Pairs (length plan / 2)
      by_it (none without f) = absurd (without plan p)
      by_it (some ps pr c pl) = by_check (c plan)

  check_none : (r : Ready i j m n) → ((p : List ℕ) → Passing r p → ⊥) → Refuses i j m n 70 0
  check_none r without = by_it (fate i j m n r)
    where
      by_it : Fate r → Refuses i j m n 70 0
      by_it (none d f) = f
      by_it (some ps pr c pl) = absurd (without (flatten ps) pr.passes)

  check_failing : (r : Ready i j m n) (plan : List ℕ) → (Passing r plan → ⊥) → (p : List ℕ) → Passing r p → Check plan ≡ Refused 73 0
  check_failing r plan d p q = by_it (fate i j m n r)
    where
      by_check : (Passing r plan × (Check plan ≡ Pairs (length plan / 2))) ⊎ ((Passing r plan → ⊥) × (Check plan ≡ Refused 73 0)) → Check plan ≡ Refused 73 0
      by_check (inl (h, e)) = absurd (d h)
      by_check (inr (h, e)) = e

      by_it : Fate r → Check plan ≡ Refused 73 0
      by_it (none without f) = absurd (without p q)
      by_it (some ps pr c pl) = by_check (c plan)

  module _ (plan : List ℕ) where
    pairs_to : (k : ℕ) → Check plan ≡ Pairs k → (r : Ready i j m n) × Passing r plan × (length plan ≡ k * 2)
    pairs_to k e = go (seen plan)
      where
        go : Seen plan → (r : Ready i j m n) × Passing r plan × (length plan ≡ k * 2)
        go (refused a p h f) = never (sym e ∙ f)
        go (limit b o f) = never (sym e ∙ f)
        go (row b w o f) = never (sym e ∙ f)
        go (nothing r without f) = never (sym e ∙ f)
        go (passed r p f) =
            let z : Pairs k ≡ Pairs (length plan / 2) = sym e ∙ f in
            let s : k ≡ length plan / 2 = cc in
            (r, p, plan_even r plan p ∙ ap (λ (x : ℕ). x * 2) (sym s))
        go (failed r d p q f) = never (sym e ∙ f)

    pairs_from : (k : ℕ) → (r : Ready i j m n) × Passing r plan × (length plan ≡ k * 2) → Check plan ≡ Pairs k
    pairs_from k (r, p, l) = check_passing r plan p ∙ ap Pairs (omega (arith, l))

    none_to : Check plan ≡ Refused 70 0 → (r : Ready i j m n) × ((p : List ℕ) → Passing r p → ⊥)
    none_to e = go (seen plan)
      where
        go : Seen plan → (r : Ready i j m n) × ((p : List ℕ) → Passing r p → ⊥)
        go (refused a p h f) = other (λ z. absurd (omega (arith, z, judge_low (judged_number h)))) (sym f ∙ e)
        go (limit b o f) = other (λ z. absurd (omega (arith, z))) (sym f ∙ e)
        go (row b w o f) = other (λ z. absurd (omega (arith, z))) (sym f ∙ e)
        go (nothing r without f) = (r, without)
        go (passed r p f) = never (sym f ∙ e)
        go (failed r d p q f) = other (λ z. absurd (omega (arith, z))) (sym f ∙ e)

    another_to : Check plan ≡ Refused 73 0 → (r : Ready i j m n) × (Passing r plan → ⊥) × ((p : List ℕ) × Passing r p)
    another_to e = go (seen plan)
      where
        go : Seen plan → (r : Ready i j m n) × (Passing r plan → ⊥) × ((p : List ℕ) × Passing r p)
        go (refused a p h f) = other (λ z. absurd (omega (arith, z, judge_low (judged_number h)))) (sym f ∙ e)
        go (limit b o f) = other (λ z. absurd (omega (arith, z))) (sym f ∙ e)
        go (row b w o f) = other (λ z. absurd (omega (arith, z))) (sym f ∙ e)
        go (nothing r without f) = other (λ z. absurd (omega (arith, z))) (sym f ∙ e)
        go (passed r p f) = never (sym f ∙ e)
        go (failed r d p q f) = (r, d, (p, q))

    row_to : Check plan ≡ Refused 72 0 → (b : Both i j) × (TooMuch b m n → ⊥) × WrongRow b m n
    row_to e = go (seen plan)
      where
        go : Seen plan → (b : Both i j) × (TooMuch b m n → ⊥) × WrongRow b m n
        go (refused a p h f) = other (λ z. absurd (omega (arith, z, judge_low (judged_number h)))) (sym f ∙ e)
        go (limit b o f) = other (λ z. absurd (omega (arith, z))) (sym f ∙ e)
        go (row b w o f) = (b, w, o)
        go (nothing r without f) = other (λ z. absurd (omega (arith, z))) (sym f ∙ e)
        go (passed r p f) = never (sym f ∙ e)
        go (failed r d p q f) = other (λ z. absurd (omega (arith, z))) (sym f ∙ e)

    limits_to : Check plan ≡ Refused 71 0 → (b : Both i j) × TooMuch b m n
    limits_to e = go (seen plan)
      where
        go : Seen plan → (b : Both i j) × TooMuch b m n
        go (refused a p h f) = other (λ z. absurd (omega (arith, z, judge_low (judged_number h)))) (sym f ∙ e)
        go (limit b o f) = (b, o)
        go (row b w o f) = other (λ z. absurd (omega (arith, z))) (sym f ∙ e)
        go (nothing r without f) = other (λ z. absurd (omega (arith, z))) (sym f ∙ e)
        go (passed r p f) = never (sym f ∙ e)
        go (failed r d p q f) = other (λ z. absurd (omega (arith, z))) (sym f ∙ e)

    judged_to : (a p : ℕ) → Judging a → Check plan ≡ Refused a p → Judged i j a p
    judged_to a p g e = go (seen plan)
      where
        go : Seen plan → Judged i j a p
        go (refused b q h f) = subst (λ (x : ℕ). Judged i j x p) (number_of (sym f ∙ e)) (subst (Judged i j b) (place_of (sym f ∙ e)) h)
        go (limit b o f) = other (λ z. absurd (omega (arith, z, judge_low g))) (sym f ∙ e)
        go (row b w o f) = other (λ z. absurd (omega (arith, z, judge_low g))) (sym f ∙ e)
        go (nothing r without f) = other (λ z. absurd (omega (arith, z, judge_low g))) (sym f ∙ e)
        go (passed r q f) = never (sym f ∙ e)
        go (failed r d q h f) = other (λ z. absurd (omega (arith, z, judge_low g))) (sym f ∙ e)

    no_others : (a p : ℕ) → Check plan ≡ Refused a p → Judging a ⊎ ((70 ≤ a) × (a ≤ 73) × (p ≡ 0))
    no_others a p e = go (seen plan)
      where
        known : (b : ℕ) → 70 ≤ b → b ≤ 73 → Check plan ≡ Refused b 0 → Judging a ⊎ ((70 ≤ a) × (a ≤ 73) × (p ≡ 0))
        known b f g h =
            let s : b ≡ a = number_of (sym h ∙ e) in
            inr (omega arith, omega arith, sym (place_of (sym h ∙ e)))

        go : Seen plan → Judging a ⊎ ((70 ≤ a) × (a ≤ 73) × (p ≡ 0))
        go (refused b q h f) = inl (subst Judging (number_of (sym f ∙ e)) (judged_number h))
        go (limit b o f) = known 71 (omega arith) (omega arith) f
        go (row b w o f) = known 72 (omega arith) (omega arith) f
        go (nothing r without f) = known 70 (omega arith) (omega arith) f
        go (passed r q f) = never (sym f ∙ e)
        go (failed r d q h f) = known 73 (omega arith) (omega arith) f

  -- the view by what the planner answers
  pub data Told (out : List ℕ) : Type 0 where
    refuses : (a p : ℕ) → Refuses i j m n a p → (a ≡ 14 → ⊥) → (a ≡ 73 → ⊥) → Told out
    short : (r : Ready i j m n) (ps : List Pair) → Proposed r ps → length out < length ps * 2 → PlanIn out ≡ planned (Refused 14 (length ps * 2)) out → Told out
    writes : (r : Ready i j m n) (ps : List Pair) → Proposed r ps → length ps * 2 ≤ length out → PlanIn out ≡ planned (Pairs (length ps)) (overlay (flatten ps) out) → Told out

  module _ (out : List ℕ) where
    told_fate : (r : Ready i j m n) → Fate r → Told out
    told_fate r (none without f) = refuses 70 0 f (λ e. absurd (omega (arith, e))) (λ e. absurd (omega (arith, e)))
    told_fate r (some ps pr c pl) =
        by (ltb (length out) (length ps * 2))
        (λ e. short r ps pr (ltb-true (length out) (length ps * 2) e) (pl out ∙ rw e))
        (λ e. writes r ps pr (ltb-false (length out) (length ps * 2) e) (pl out ∙ rw e))

    told_view : View i j m n → Told out
    told_view (judged a p h) = refuses a p (judged_refuses i j m n a p h) (not_fourteen (judged_number h)) (λ e. absurd (omega (arith, e, judge_low (judged_number h))))
    told_view (over b o) = refuses 71 0 (over_refuses i j m n b o) (λ e. absurd (omega (arith, e))) (λ e. absurd (omega (arith, e)))
    told_view (wrong b w r) = refuses 72 0 (row_refuses i j m n b w r) (λ e. absurd (omega (arith, e))) (λ e. absurd (omega (arith, e)))
    told_view (ready r) = told_fate r (fate i j m n r)

    told : Told out
    told = told_view (view i j m n)

    abbrev Wrote : List ℕ → ℕ → Type 0
    Wrote room k = (r : Ready i j m n) × ((ps : List Pair) × Proposed r ps × (k ≡ length ps) × (k * 2 ≤ length out) × (room ≡ overlay (flatten ps) out))

    plans_to : (room : List ℕ) (k : ℕ) → PlanIn out ≡ planned (Pairs k) room → Wrote room k
    plans_to room k e = go told
      where
        go : Told out → Wrote room k
        go (refuses a p f x y) = never (answer_of (sym e ∙ f.plan out))
        go (short r ps pr l f) = never (answer_of (sym e ∙ f))
        go (writes r ps pr l f) =
            let z : Pairs k ≡ Pairs (length ps) = answer_of (sym e ∙ f) in
            let s : k ≡ length ps = cc in
            (r, (ps, pr, s, omega arith, room_of (sym e ∙ f)))

    -- what is proposed of a ready pair is what the planner has
    by_proposal : (r : Ready i j m n) (ps : List Pair) → Proposed r ps
        → PlanIn out ≡ pick (ltb (length out) (length ps * 2)) (planned (Refused 14 (length ps * 2)) out) (planned (Pairs (length ps)) (overlay (flatten ps) out))
    by_proposal r ps pr = go (fate i j m n r)
      where
        go : Fate r → PlanIn out ≡ pick (ltb (length out) (length ps * 2)) (planned (Refused 14 (length ps * 2)) out) (planned (Pairs (length ps)) (overlay (flatten ps) out))
        go (none without f) = absurd (without (flatten ps) pr.passes)
        go (some qs qr c pl) =
            pl out
            ∙ ap (λ (l : List Pair). pick (ltb (length out) (length l * 2)) (planned (Refused 14 (length l * 2)) out) (planned (Pairs (length l)) (overlay (flatten l) out)))
            (one_proposal r qs ps qr pr)

    plans_from : (room : List ℕ) (k : ℕ) → Wrote room k → PlanIn out ≡ planned (Pairs k) room
    plans_from room k (r, (ps, pr, s, l, e)) =
        let low : length ps * 2 ≤ length out = omega arith in
        by_proposal r ps pr ∙ rw (le-ltb (length out) (length ps * 2) low) (ap (λ (x : ℕ). planned (Pairs x) (overlay (flatten ps) out)) (sym s) ∙ ap (planned (Pairs k)) (sym e))

    abbrev Lacks : List ℕ → ℕ → Type 0
    Lacks room p = (r : Ready i j m n) × ((ps : List Pair) × Proposed r ps × (p ≡ length ps * 2) × (length out < p) × (room ≡ out))

    room_to : (room : List ℕ) (p : ℕ) → PlanIn out ≡ planned (Refused 14 p) room → Lacks room p
    room_to room p e = go told
      where
        go : Told out → Lacks room p
        go (refuses a q f x y) = other x (answer_of (sym (f.plan out) ∙ e))
        go (short r ps pr l f) =
            let s : p ≡ length ps * 2 = sym (place_of (answer_of (sym f ∙ e))) in
            (r, (ps, pr, s, omega arith, room_of (sym e ∙ f)))
        go (writes r ps pr l f) = never (answer_of (sym f ∙ e))

    room_from : (room : List ℕ) (p : ℕ) → Lacks room p → PlanIn out ≡ planned (Refused 14 p) room
    room_from room p (r, (ps, pr, s, l, e)) =
        let high : length out < length ps * 2 = omega arith in
        by_proposal r ps pr ∙ rw (lt-ltb (length out) (length ps * 2) high) (ap (λ (x : ℕ). planned (Refused 14 x) out) (sym s) ∙ ap (planned (Refused 14 p)) (sym e))

    refused_to : (room : List ℕ) (a p : ℕ) → (a ≡ 14 → ⊥) → PlanIn out ≡ planned (Refused a p) room → ((plan : List ℕ) → Check plan ≡ Refused a p) × (room ≡ out)
    refused_to room a p d e = go told
      where
        go : Told out → ((plan : List ℕ) → Check plan ≡ Refused a p) × (room ≡ out)
        go (refuses b q f x y) = (λ plan. f.check plan ∙ answer_of (sym (f.plan out) ∙ e), room_of (sym e ∙ f.plan out))
        go (short r ps pr l f) = other (λ z. d (sym z)) (answer_of (sym f ∙ e))
        go (writes r ps pr l f) = never (answer_of (sym f ∙ e))

    refused_from : (room : List ℕ) (a p : ℕ) → ((plan : List ℕ) → Check plan ≡ Refused a p) × (room ≡ out) → PlanIn out ≡ planned (Refused a p) room
    refused_from room a p (c, e) = go told
      where
        go : Told out → PlanIn out ≡ planned (Refused a p) room
        go (refuses b q f x y) = f.plan out ∙ ap (λ (z : Paired). planned z out) (sym (f.check []) ∙ c []) ∙ ap (planned (Refused a p)) (sym e)
        go (short r ps pr l f) = never (sym (check_passing r (flatten ps) pr.passes) ∙ c (flatten ps))
        go (writes r ps pr l f) = never (sym (check_passing r (flatten ps) pr.passes) ∙ c (flatten ps))

    never_failed : (room : List ℕ) (p : ℕ) → PlanIn out ≡ planned (Refused 73 p) room → ⊥
    never_failed room p e = go told
      where
        go : Told out → ⊥
        go (refuses a q f x y) = other y (answer_of (sym (f.plan out) ∙ e))
        go (short r ps pr l f) = other (λ z. absurd (omega (arith, z))) (answer_of (sym f ∙ e))
        go (writes r ps pr l f) = never (answer_of (sym f ∙ e))

    agrees : (room : List ℕ) (k : ℕ) → PlanIn out ≡ planned (Pairs k) room → Check (take (k * 2) room) ≡ Pairs k
    agrees room k e = go (plans_to room k e)
      where
        go : Wrote room k → Check (take (k * 2) room) ≡ Pairs k
        go (r, (ps, pr, s, l, f)) =
            let size : length (flatten ps) ≡ k * 2 = flatten_length ps ∙ ap (λ (x : ℕ). x * 2) (sym s) in
            ap Check (ap (take (k * 2)) f ∙ take_at (flatten ps) (drop (length (flatten ps)) out) (k * 2) size) ∙ pairs_from (flatten ps) k (r, pr.passes, size)

pub demand11 : Demand11
demand11 =
    record {
      pairs = λ i j m n plan k. (pairs_to i j m n plan k, pairs_from i j m n plan k);
      none = λ i j m n plan. (none_to i j m n plan, λ (r, without). (check_none i j m n r without).check plan);
      another = λ i j m n plan. (another_to i j m n plan, λ (r, d, (p, q)). check_failing i j m n r plan d p q);
      row = λ i j m n plan. (row_to i j m n plan, λ (b, w, o). (row_refuses i j m n b w o).check plan);
      limits = λ i j m n plan. (limits_to i j m n plan, λ (b, o). (over_refuses i j m n b o).check plan);
      first_refusals = λ i j m n plan a p g. (judged_to i j m n plan a p g, λ h. (judged_refuses i j m n a p h).check plan);
      no_other = λ i j m n plan a p e. no_others i j m n plan a p e;
      plans = λ i j m n out room k. (plans_to i j m n out room k, plans_from i j m n out room k);
      no_room = λ i j m n out room p. (room_to i j m n out room p, room_from i j m n out room p);
      none_planned = λ i j m n out room a p x y. (refused_to i j m n out room a p x, refused_from i j m n out room a p);
      never_another = λ i j m n out room p e. never_failed i j m n out room p e;
      agree = λ i j m n out room k e. agrees i j m n out room k e;
    }
