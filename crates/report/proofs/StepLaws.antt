-- Counts and what is added to them, place by place. Assumes nothing.
use mathlib.Core.Path.{◌≡◌, refl, sym, ap, ◌∙◌}
use mathlib.Core.Bool.{Bool, true, false, ◌||◌}
use mathlib.Core.List.{List, ◌++◌, append-nil}
use Prim.Native.Nat.{ℕ, zero, suc, ◌+◌, ◌-◌, ◌<◌, ◌≤◌}
use native.Mathlib.Numerals.{add-one}
use native.Mathlib.Omega.{arith}
use lib.Dec.{ltb}
use lib.ListN.{length, get_or, take, drop, set, replicate, length-replicate, drop_of_length-le}
use lib.Seq.{take_all}
use borrow.Author.Tests.{ltb-true, ltb-false, lt-ltb, le-ltb}
use Rattle.octets.specs.Counts.{any}
use Rattle.octets.proofs.Bools.{clash}
use Rattle.octets.proofs.Copies.{copy_step}
use Rattle.report_lines.specs.Rows.{numbers_from}
use Rattle.report_weights.specs.Parts.{weights}
use Rattle.report_lines.proofs.CountLaws.{from_length, from_at, map_length}
use Rattle.report.specs.Steps.{sum_at, over, sums, take_step}
use Rattle.report.specs.declared.Report.{Report}
use Rattle.report.specs.Answer.{Counted, Refused, Taken}

neither : (a b : Bool) → a || b ≡ false → (a ≡ false) × (b ≡ false)
neither true b e = clash cc
neither false b e = (refl, e)

either : {A : Type 0} (a b : Bool) → a || b ≡ true → (a ≡ true → A) → (b ≡ true → A) → A
either true b e f g = f refl
either false b e f g = g e

-- ---- whether one of the numbers from p on passes a test

module _ (t : ℕ → Bool) where
  next : (p n : ℕ) → 0 < n → any t (numbers_from p n) ≡ t p || any t (numbers_from (p + 1) (n - 1))
  unfolding numbers_from any
  next p zero h = absurd (omega arith)
  next p (suc n) h =
      let e : suc n - 1 ≡ n = omega arith in
      rw (add-one, e)

  -- no number from p on does
  none_of : (p n : ℕ) → any t (numbers_from p n) ≡ false → (k : ℕ) → p ≤ k → k < p + n → t k ≡ false
  unfolding numbers_from any
  none_of p zero e k h g = absurd (omega arith)
  none_of p (suc n) e k h g =
      let both = neither (t p) (any t (numbers_from (suc p) n)) e in
      by (ltb p k) refl both.0 (λ q. none_of (suc p) n both.1 k q (omega arith))
    where
      by : (b : Bool) → ltb p k ≡ b → t p ≡ false → (p < k → t k ≡ false) → t k ≡ false
      by true q here later = later (ltb-true p k q)
      by false q here later =
          let same : p ≡ k = omega (arith, ltb-false p k q) in
          rw same at here

  -- one of them does
  some_of : (p n : ℕ) → any t (numbers_from p n) ≡ true → (k : ℕ) × (k < p + n) × (t k ≡ true)
  unfolding numbers_from any
  some_of p zero e = clash cc
  some_of p (suc n) e =
      either (t p) (any t (numbers_from (suc p) n)) e
      (λ q. (p, omega arith, q))
      (λ q. let r = some_of (suc p) n q in (r.0, omega (arith, r.1), r.2))

-- ---- the test for a count that would pass

module _ (xs ws : List ℕ) where
  abbrev pub over_from : ℕ → Bool
  over_from p = any (λ k. ltb 4294967295 (sum_at xs ws k)) (numbers_from p (59 - p))

  pub over_all : over xs ws ≡ over_from 0
  unfolding over
  over_all = refl

  turn : (p : ℕ) → p < 59 → over_from p ≡ ltb 4294967295 (sum_at xs ws p) || over_from (p + 1)
  turn p h =
      let e : 59 - p - 1 ≡ 59 - (p + 1) = omega arith in
      rw e at (next (λ k. ltb 4294967295 (sum_at xs ws k)) p (59 - p) (omega arith))

  pub over_here : (p : ℕ) → p < 59 → 4294967295 < sum_at xs ws p → over_from p ≡ true
  over_here p h k = turn p h ∙ rw (lt-ltb 4294967295 (sum_at xs ws p) k)

  pub over_later : (p : ℕ) → p < 59 → sum_at xs ws p ≤ 4294967295 → over_from p ≡ over_from (p + 1)
  over_later p h k = turn p h ∙ rw (le-ltb 4294967295 (sum_at xs ws p) k)

  pub over_end : (p : ℕ) → 59 ≤ p → over_from p ≡ false
  unfolding numbers_from any
  over_end p h =
      let e : 59 - p ≡ 0 = omega arith in
      rw e

  -- where no count would pass, each sum fits
  pub sum_fits : over xs ws ≡ false → (p : ℕ) → p < 59 → sum_at xs ws p ≤ 4294967295
  unfolding over
  sum_fits e p h = ltb-false 4294967295 (sum_at xs ws p) (none_of (λ k. ltb 4294967295 (sum_at xs ws k)) 0 59 e p (omega arith) (omega arith))

  -- where a count would pass, it stands somewhere
  pub passing : over xs ws ≡ true → (p : ℕ) × (p < 59) × (4294967295 < sum_at xs ws p)
  unfolding over
  passing e =
      let r = some_of (λ k. ltb 4294967295 (sum_at xs ws k)) 0 59 e in
      (r.0, omega (arith, r.1), ltb-true 4294967295 (sum_at xs ws r.0) r.2)

  -- ---- the sums

  pub sums_length : length (sums xs ws) ≡ 59
  unfolding sums
  sums_length = map_length (sum_at xs ws) (numbers_from 0 59) ∙ from_length 0 59

  pub sums_at : (p : ℕ) → p < 59 → get_or (sums xs ws) p 0 ≡ sum_at xs ws p
  unfolding sums
  sums_at p h =
      let e : 0 + p ≡ p = omega arith in
      from_at (sum_at xs ws) 0 59 p h ∙ ap (sum_at xs ws) e

  -- those of the first p places, and then zeros
  abbrev pub sums_to : ℕ → List ℕ
  sums_to p = take p (sums xs ws) ++ drop p (replicate 59 0)

  pub sums_next : (next : List ℕ) (p v : ℕ) → p < 59 → v ≡ sum_at xs ws p → next ≡ sums_to p → set next p v ≡ sums_to (p + 1)
  sums_next next p v h e q =
      ap (set next p) (e ∙ sym (sums_at p h))
      ∙ copy_step (replicate 59 0) (sums xs ws) next p (omega (arith, length-replicate {A = ℕ} 59 0)) (omega (arith, sums_length)) q

  pub sums_done : (next : List ℕ) (p : ℕ) → 59 ≤ p → next ≡ sums_to p → next ≡ sums xs ws
  sums_done next p h q =
      q ∙ rw (take_all p (sums xs ws) (omega (arith, sums_length)), drop_of_length-le {A = ℕ} (replicate 59 0) {i = p} (omega (arith, length-replicate {A = ℕ} 59 0)))
      (append-nil (sums xs ws))

-- ---- a judgement taken, w being what it adds

module _ (r : Report) (i w : List ℕ) (e : w ≡ weights i) where
  pub refused_take : over r.counts w ≡ true → ◌≡◌ {A = Taken} (record { answer = Refused 80 0; report = r }) (take_step r i)
  unfolding take_step
  refused_take h = rw (← e, h)

  pub counted_take : over r.counts w ≡ false → (next : List ℕ) → next ≡ sums r.counts w
      → ◌≡◌ {A = Taken} (record { answer = Counted; report = record { counts = next } }) (take_step r i)
  unfolding take_step
  counted_take h next q = rw (← e, h, q)
