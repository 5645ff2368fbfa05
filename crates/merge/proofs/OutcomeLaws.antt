-- The answers by what reading the two cards leaves. Assumes nothing.
use mathlib.Core.Path.{◌≡◌, sym, ap, ◌∙◌}
use mathlib.Core.List.{List, []}
use Prim.Native.Nat.{ℕ}
use Rattle.reader.specs.Outcome.{Taken, took}
use Rattle.reader.specs.Outcome.{Verdict}
use Rattle.reader.specs.Outcome.{Accepted, Refused as Halted}
use Rattle.merge_sources.specs.Row.{filled}
use Rattle.merge_sources.specs.declared.Row.{Row}
use Rattle.merge_sides.specs.Sources.{own_row}
use Rattle.merge.specs.Sides.{side, read_of, refusal_of, settle_of, own_row_of}
use Rattle.merge.specs.Outcome.{planned, write_of, no_partners, plan_rows, judge_of, check_rows}

module _ (i j : List ℕ) (a b : Row) where
  -- the first card is refused, or the second
  module _ (v : Verdict) (c r : List ℕ) (e : took v c r ≡ read_of i) where
    answer : (read_of i).answer ≡ v
    answer = ap (λ (t : Taken). t.answer) (sym e)

    pub plan_first : (out : List ℕ) (n p : ℕ) → v ≡ Halted n p → plan_rows i j a b out ≡ planned (refusal_of v) out
    unfolding plan_rows
    plan_first out n p h = rw (answer, h)

    pub check_first : (plan : List ℕ) (n p : ℕ) → v ≡ Halted n p → check_rows i j a b plan ≡ refusal_of v
    unfolding check_rows
    check_first plan n p h = rw (answer, h)

    module _ (k n : ℕ) (is : v ≡ Accepted k n) (w : Verdict) (d s : List ℕ) (f : took w d s ≡ read_of j) where
      other : (read_of j).answer ≡ w
      other = ap (λ (t : Taken). t.answer) (sym f)

      pub plan_second : (out : List ℕ) (m p : ℕ) → w ≡ Halted m p → plan_rows i j a b out ≡ planned (refusal_of w) out
      unfolding plan_rows
      plan_second out m p h = rw (answer, is, other, h)

      pub check_second : (plan : List ℕ) (m p : ℕ) → w ≡ Halted m p → check_rows i j a b plan ≡ refusal_of w
      unfolding check_rows
      check_second plan m p h = rw (answer, is, other, h)

      module _ (l m : ℕ) (too : w ≡ Accepted l m) where
        read_first : read_of i ≡ took (Accepted k n) c r
        read_first = sym e ∙ ap (λ (z : Verdict). took z c r) is

        read_second : read_of j ≡ took (Accepted l m) d s
        read_second = sym f ∙ ap (λ (z : Verdict). took z d s) too

        pub plan_both : (out : List ℕ) → plan_rows i j a b out ≡ write_of (settle_of (side c r k n) (side d s l m) a b no_partners) out
        unfolding plan_rows
        plan_both out = rw (read_first, read_second)

        pub check_both : (plan : List ℕ) → check_rows i j a b plan ≡ judge_of (settle_of (side c r k n) (side d s l m) a b no_partners) (side c r k n) (side d s l m) plan
        unfolding check_rows
        check_both plan = rw (read_first, read_second)

module _ (i : List ℕ) (v : Verdict) (c r : List ℕ) (e : took v c r ≡ read_of i) where
  pub row_none : (n p : ℕ) → v ≡ Halted n p → own_row_of i ≡ filled 0 [] 0
  unfolding own_row_of
  row_none n p h = rw (← e, h)

  pub row_own : (k n : ℕ) → v ≡ Accepted k n → own_row_of i ≡ own_row c r n
  unfolding own_row_of
  row_own k n h = rw (← e, h)
