-- Every count is its sum over the judgements taken, and 80 is given exactly where one would pass. Assumes nothing.
use mathlib.Core.Path.{◌≡◌, refl, sym, ap, ◌∙◌}
use mathlib.Core.Bool.{Bool, true, false}
use mathlib.Core.List.{List, [], ◌∷◌}
use mathlib.Core.Logic.{◌↔◌}
use Prim.Native.Nat.{ℕ, zero, suc, ◌+◌, ◌<◌, ◌≤◌}
use native.Mathlib.Omega.{arith}
use lib.Dec.{ltb}
use lib.ListN.{length, get_or, replicate, length-replicate, get_or-eq_default}
use borrow.Author.Tests.{ltb-true, ltb-false}
use Rattle.octets.proofs.Bools.{clash}
use Rattle.report_weights.specs.Counts.{Count, count_at}
use Rattle.report_weights.specs.Parts.{part, weights}
use Rattle.report_weights.proofs.PlaceLaws.{each_at}
use Rattle.report.specs.Steps.{over, sums, fresh_report, take_step}
use Rattle.report.specs.declared.Report.{Report}
use Rattle.report.specs.Answer.{Counted, Refused, Taken}
use Rattle.report.proofs.StepLaws.{sum_fits, passing, sums_length, sums_at, refused_take, counted_take}
use Rattle.report_laws.specs.Totals.{total, after, kept, taken, place_of, count_in}
use Rattle.report_laws.proofs.Places.{placed, back, no_other}

-- what a judgement adds at the place of a count
added_at_lem : (c : Count) (i : List ℕ) → place_of c < 59 → get_or (weights i) (place_of c) 0 ≡ part c i
unfolding weights
added_at_lem c i h = each_at (λ c. part c i) (place_of c) h ∙ ap (λ (d : Count). part d i) (back c h)

-- a list of 59 has nothing past them
past : (xs : List ℕ) (p : ℕ) → length xs ≡ 59 → 59 ≤ p → get_or xs p 0 ≡ 0
past xs p e h = get_or-eq_default xs 0 {n = p} (omega arith)

abbrev pub Sized : Report → Type 0
Sized r = length r.counts ≡ 59

module _ (c : Count) where
  -- one judgement that is counted
  moves : (r : Report) (i : List ℕ) → Sized r → get_or (sums r.counts (weights i)) (place_of c) 0 ≡ count_in r c + part c i
  moves r i size = by (ltb (place_of c) 59) refl
    where
      by : (t : Bool) → ltb (place_of c) 59 ≡ t → get_or (sums r.counts (weights i)) (place_of c) 0 ≡ count_in r c + part c i
      by true e =
          let h = ltb-true (place_of c) 59 e in
          sums_at r.counts (weights i) (place_of c) h ∙ ap (λ (n : ℕ). count_in r c + n) (added_at_lem c i h)
      by false e =
          let h = ltb-false (place_of c) 59 e in
          omega (
            arith,
            past (sums r.counts (weights i)) (place_of c) (sums_length r.counts (weights i)) h,
            past r.counts (place_of c) size h,
            no_other c i h,
          )

  -- after a judgement and then others
  from_refused : (r : Report) (i : List ℕ) (is : List (List ℕ)) → over r.counts (weights i) ≡ true
      → count_in (after r is) c ≡ count_in r c + total c (taken r is)
      → count_in (after r (i ∷ is)) c ≡ count_in r c + total c (taken r (i ∷ is))
  unfolding after taken
  from_refused r i is e rest =
      let q = sym (refused_take r i (weights i) refl e) in
      ap (λ (t : Taken). count_in (after t.report is) c) q ∙ rest
      ∙ sym (ap (λ (t : Taken). count_in r c + total c (kept t.answer i (taken t.report is))) q)

  from_counted : (r : Report) (i : List ℕ) (is : List (List ℕ)) (s : Report) → s ≡ record { counts = sums r.counts (weights i) } → Sized r
      → over r.counts (weights i) ≡ false → count_in (after s is) c ≡ count_in s c + total c (taken s is)
      → count_in (after r (i ∷ is)) c ≡ count_in r c + total c (taken r (i ∷ is))
  unfolding after taken total
  from_counted r i is s es size e rest =
      let q = sym (counted_take r i (weights i) refl e s.counts (ap (λ (x : Report). x.counts) es)) in
      let one : count_in s c ≡ count_in r c + part c i = ap (λ (x : Report). count_in x c) es ∙ moves r i size in
      ap (λ (t : Taken). count_in (after t.report is) c) q ∙ rest
      ∙ omega (arith, one)
      ∙ sym (ap (λ (t : Taken). count_in r c + total c (kept t.answer i (taken t.report is))) q)

  counts_from : (is : List (List ℕ)) (r : Report) → Sized r → count_in (after r is) c ≡ count_in r c + total c (taken r is)
  unfolding after taken total
  counts_from [] r size = omega arith
  counts_from (i ∷ is) r size =
      by (over r.counts (weights i)) refl (counts_from is r size)
      (counts_from is (record { counts = sums r.counts (weights i) }) (sums_length r.counts (weights i)))
    where
      by : (t : Bool) → over r.counts (weights i) ≡ t → count_in (after r is) c ≡ count_in r c + total c (taken r is)
          → count_in (after (record { counts = sums r.counts (weights i) }) is) c
          ≡ count_in (record { counts = sums r.counts (weights i) }) c + total c (taken (record { counts = sums r.counts (weights i) }) is)
          → count_in (after r (i ∷ is)) c ≡ count_in r c + total c (taken r (i ∷ is))
      by true e stayed moved = from_refused r i is e stayed
      by false e stayed moved = from_counted r i is (record { counts = sums r.counts (weights i) }) refl size e moved

zeros : (n p : ℕ) → ◌≡◌ {A = ℕ} (get_or (replicate n 0) p 0) 0
zeros zero p = refl
zeros (suc n) zero = refl
zeros (suc n) (suc p) = zeros n p

fresh_size : Sized fresh_report
fresh_size = length-replicate {A = ℕ} 59 0

pub counts : (is : List (List ℕ)) (c : Count) → count_in (after fresh_report is) c ≡ total c (taken fresh_report is)
counts is c = omega (arith, counts_from c is fresh_report fresh_size, zeros 59 (place_of c))

-- ---- 80

module _ (r : Report) (i : List ℕ) where
  by_answer : (t : Bool) → over r.counts (weights i) ≡ t → (take_step r i).answer ≡ Refused 80 0 → t ≡ true
  by_answer true e h = refl
  by_answer false e h =
      let q : (take_step r i).answer ≡ Counted = sym (ap (λ (t : Taken). t.answer) (counted_take r i (weights i) refl e (sums r.counts (weights i)) refl)) in
      clash cc

  pub stays : (take_step r i).answer ≡ Refused 80 0 → (take_step r i).report ≡ r
  stays h =
      let e = by_answer (over r.counts (weights i)) refl h in
      sym (ap (λ (t : Taken). t.report) (refused_take r i (weights i) refl e))

  over_refused : over r.counts (weights i) ≡ true → (take_step r i).answer ≡ Refused 80 0
  over_refused e = sym (ap (λ (t : Taken). t.answer) (refused_take r i (weights i) refl e))

  -- no other refusal is given
  pub only_full : (n p : ℕ) → (take_step r i).answer ≡ Refused n p → (n ≡ 80) × (p ≡ 0)
  only_full n p h = by (over r.counts (weights i)) refl
    where
      by : (t : Bool) → over r.counts (weights i) ≡ t → (n ≡ 80) × (p ≡ 0)
      by true e =
          let q = over_refused e in
          let a : n ≡ 80 = cc in
          let b : p ≡ 0 = cc in
          (a, b)
      by false e =
          let q : (take_step r i).answer ≡ Counted = sym (ap (λ (t : Taken). t.answer) (counted_take r i (weights i) refl e (sums r.counts (weights i)) refl)) in
          clash cc

  -- a count that would pass
  pub to_count : (take_step r i).answer ≡ Refused 80 0 → (c : Count) × (place_of c < 59) × (4294967295 < count_in r c + part c i)
  to_count h =
      let p = passing r.counts (weights i) (by_answer (over r.counts (weights i)) refl h) in
      let c = count_at p.0 in
      let e = placed p.0 p.1 in
      let low : place_of c < 59 = omega (arith, e, p.1) in
      let w = added_at_lem c i low in
      let same : get_or (weights i) (place_of c) 0 ≡ get_or (weights i) p.0 0 = ap (λ (k : ℕ). get_or (weights i) k 0) e in
      let here : count_in r c ≡ get_or r.counts p.0 0 = ap (λ (k : ℕ). get_or r.counts k 0) e in
      (c, low, omega (arith, p.2, w, same, here))

  pub take_refused : (c : Count) → place_of c < 59 → 4294967295 < count_in r c + part c i
      → take_step r i ≡ record { answer = Refused 80 0; report = r }
  take_refused c low h = by (over r.counts (weights i)) refl
    where
      by : (t : Bool) → over r.counts (weights i) ≡ t → take_step r i ≡ record { answer = Refused 80 0; report = r }
      by true e = sym (refused_take r i (weights i) refl e)
      by false e = absurd (omega (arith, sum_fits r.counts (weights i) e (place_of c) low, added_at_lem c i low))

  from_count : Sized r → (c : Count) → 4294967295 < count_in r c + part c i → (take_step r i).answer ≡ Refused 80 0
  from_count size c h = by (ltb (place_of c) 59) refl
    where
      by : (t : Bool) → ltb (place_of c) 59 ≡ t → (take_step r i).answer ≡ Refused 80 0
      by true q = ap (λ (t : Taken). t.answer) (take_refused c (ltb-true (place_of c) 59 q) h)
      by false q =
          let high = ltb-false (place_of c) 59 q in
          absurd (omega (arith, no_other c i high, past r.counts (place_of c) size high))

-- a report stays one of 59 counts
pub after_size : (is : List (List ℕ)) (r : Report) → Sized r → Sized (after r is)
unfolding after
after_size [] r size = size
after_size (i ∷ is) r size = after_size is (take_step r i).report (by (over r.counts (weights i)) refl)
  where
    by : (t : Bool) → over r.counts (weights i) ≡ t → Sized (take_step r i).report
    by true e = ap (λ (t : Taken). length t.report.counts) (sym (refused_take r i (weights i) refl e)) ∙ size
    by false e =
        ap (λ (t : Taken). length t.report.counts) (sym (counted_take r i (weights i) refl e (sums r.counts (weights i)) refl))
        ∙ sums_length r.counts (weights i)

pub full : (is : List (List ℕ)) (i : List ℕ)
    → ((take_step (after fresh_report is) i).answer ≡ Refused 80 0) ↔ ((c : Count) × (4294967295 < total c (taken fresh_report is) + part c i))
full is i =
    let r = after fresh_report is in (
      λ h. let d = to_count r i h in (d.0, omega (arith, d.2, counts is d.0)),
      λ d. from_count r i (after_size is fresh_report fresh_size) d.0 (omega (arith, d.1, counts is d.0)),
    )
