-- What the end answers, by what the state knows. Assumes nothing.
use mathlib.Core.Path.{◌≡◌, refl, sym, ap, ◌∙◌}
use mathlib.Core.Bool.{true, false}
use mathlib.Core.List.{List, [], ◌∷◌}
use Prim.Native.Nat.{ℕ, ◌+◌, ◌-◌, ◌<◌, ◌≤◌}
use native.Mathlib.Omega.{arith}
use lib.ListN.{length, take, drop}
use lib.Seq.{take-take}
use borrow.Author.Tests.{lt-ltb, le-ltb, eq-eqb, ne_eqb}
use Rattle.numbers.specs.Refusals.{number}
use Rattle.line_breaks.specs.Lone.{first_lone, ends_cr_lf}
use Rattle.line_folds.specs.Folds.{line_length}
use Rattle.line_folds.specs.Logical.{raw_lines}
use Rattle.property_table.specs.declared.Edition.TheVariants.{First}
use Rattle.card_state.specs.State.{Card, Step, Next, Refused, Flawed, fresh_card}
use Rattle.card_state.specs.Kept.{card_of}
use Rattle.reader.specs.Outcome.{verdict_of, judge_in, judge_of}
use Rattle.reader.specs.Outcome.{Refused as Judged}
use Rattle.reader_walk.specs.Walk.{onward, settled, judge_lines}
use Rattle.watch_arrivals.specs.Arrivals.{tail_from, lone_from}
use Rattle.watch_arrivals.proofs.ArrivalLaws.{first_fine, first_waits, first_known, ends_law, line_left, break_none}
use Rattle.watch_lines.specs.Parting.{ended_lines, open_line}
use Rattle.watch_lines.specs.Taking.{judgement}
use Rattle.watch_lines.proofs.RunLaws.{sizes, judge_append, open_law}
use Rattle.watch.specs.Octets.{judged, buffer_after}
use Rattle.watch.specs.declared.Watch.{Watch}
use Rattle.watch.specs.State.{Live, Stands}
use Rattle.watch.specs.State.Stands.{live, faulty, broken, over}
use Rattle.watch.proofs.ArriveLaws.{line_is}
use Rattle.watch.proofs.FaultLaws.{counted, whole, stays}

-- the reader's answer by what it looks at
answer_over : (i : List ℕ) → 16384 < length i → Judged 1 16384 ≡ judge_of i
unfolding judge_in
answer_over i h = rw (lt-ltb 16384 (length i) h)

answer_none : (i : List ℕ) → length i ≡ 0 → Judged 2 0 ≡ judge_of i
unfolding judge_in
answer_none i h = rw (le-ltb 16384 (length i) (omega (arith, h)), eq-eqb (length i) 0 h)

answer_lone : (i : List ℕ) → length i ≤ 16384 → first_lone i < length i → (p : ℕ) → p ≡ first_lone i → Judged 3 p ≡ judge_of i
unfolding judge_in
answer_lone i s h p e = rw (le-ltb 16384 (length i) s, ne_eqb (length i) 0 (λ z. omega arith), lt-ltb (first_lone i) (length i) h, e)

answer_open : (i : List ℕ) → length i ≤ 16384 → 0 < length i → first_lone i ≡ length i → ends_cr_lf i ≡ false → (p : ℕ) → p ≡ length i → Judged 4 p ≡ judge_of i
unfolding judge_in
answer_open i s n h f p e = rw (le-ltb 16384 (length i) s, ne_eqb (length i) 0 (λ z. omega arith), le-ltb (first_lone i) (length i) (omega (arith, h)), f, e)

answer_lines : (i : List ℕ) → length i ≤ 16384 → 0 < length i → first_lone i ≡ length i → ends_cr_lf i ≡ true
    → verdict_of (length i) (judge_lines First (raw_lines i) 0 fresh_card) ≡ judge_of i
unfolding judge_in
answer_lines i s n h f = rw (le-ltb 16384 (length i) s, ne_eqb (length i) 0 (λ z. omega arith), le-ltb (first_lone i) (length i) (omega (arith, h)), f)

on_end : (x : Step) → onward x (λ (c : Card). Next c) ≡ x
on_end (Next c) = refl
on_end (Refused n p) = refl
on_end (Flawed n o) = refl

module _ (w : Watch) (b i : List ℕ) where
  pub end_over : w.known ≡ 3 → Stands w b i → Judged 1 16384 ≡ judge_of i
  end_over h (live l) = absurd (omega (arith, h, l.known))
  end_over h (faulty f) = absurd (omega (arith, h, f.known))
  end_over h (broken f) = absurd (omega (arith, h, f.known))
  end_over h (over f) = answer_over i f.long

  pub end_none : (w.known ≡ 3 → ⊥) → Stands w b i → w.start + w.«open» ≡ 0 → Judged 2 0 ≡ judge_of i
  end_none h s z = answer_none i (sym (counted w b i h s) ∙ z)

  pub end_broken : w.known ≡ 2 → Stands w b i → Judged 3 w.place ≡ judge_of i
  end_broken h (live l) = absurd (omega (arith, h, l.known))
  end_broken h (faulty f) = absurd (omega (arith, h, f.known))
  end_broken h (over f) = absurd (omega (arith, h, f.known))
  end_broken h (broken f) =
      let e = first_known i f.lone in
      answer_lone i f.short (omega (arith, e, f.lone)) w.place (omega (arith, e, f.place))

  -- from here on no lone CR or LF is known
  module _ (not_over : w.known ≡ 3 → ⊥) (not-broken : w.known ≡ 2 → ⊥) (s : Stands w b i) (low : w.start + w.«open» ≤ 16384) (some : w.start + w.«open» ≡ 0 → ⊥) where
    size : w.start + w.«open» ≡ length i
    size = counted w b i not_over s

    fine : lone_from 0 i ≡ length i + 1
    fine = (whole w b i [] not_over not-broken s).0

    tail : w.tail ≡ tail_from 0 i
    tail = (whole w b i [] not_over not-broken s).1

    short : length i ≤ 16384
    short = omega (arith, size, low)

    pos : 0 < length i
    pos = omega (arith, size, some)

    pub end_waits : w.tail ≡ 1 → Judged 3 (w.start + w.«open» - 1) ≡ judge_of i
    end_waits t =
        let e = first_waits i fine (sym tail ∙ t) in
        answer_lone i short (omega (arith, e)) (w.start + w.«open» - 1) (omega (arith, e, size))

    pub end_open : (w.tail ≡ 1 → ⊥) → (w.tail ≡ 2 → ⊥) → Judged 4 (w.start + w.«open») ≡ judge_of i
    end_open t u =
        answer_open i short pos (first_fine i fine (λ z. t (tail ∙ z))) (ends_law i ∙ ne_eqb (tail_from 0 i) 2 (λ z. u (tail ∙ z))) (w.start + w.«open») size

    module _ (ends : w.tail ≡ 2) where
      two : tail_from 0 i ≡ 2
      two = sym tail ∙ ends

      lines : verdict_of (length i) (judge_lines First (raw_lines i) 0 fresh_card) ≡ judge_of i
      lines = answer_lines i short pos (first_fine i fine (λ z. omega (arith, z, two))) (ends_law i ∙ eq-eqb (tail_from 0 i) 2 two)

      abbrev o : List ℕ
      o = open_line i

      -- the last line is judged after those that have ended
      walk_is : judge_lines First (raw_lines i) 0 fresh_card ≡ onward (judged i) (judge_lines First (take (line_length o) o ∷ []) (0 + sizes (ended_lines i)))
      unfolding judged
      walk_is =
          ap (λ (ls : List (List ℕ)). judge_lines First ls 0 fresh_card) ((open_law i).lines fine pos)
          ∙ judge_append First (ended_lines i) (take (line_length o) o ∷ []) 0 fresh_card

      pub end_faulty : w.known ≡ 1 → Judged (number w.fault) w.place ≡ judge_of i
      end_faulty h = by_state s
        where
          by_state : Stands w b i → Judged (number w.fault) w.place ≡ judge_of i
          by_state (live l) = absurd (omega (arith, h, l.known))
          by_state (broken f) = absurd (omega (arith, h, f.known))
          by_state (over f) = absurd (omega (arith, h, f.known))
          by_state (faulty f) =
              sym (f.fault.1 (length i))
              ∙ ap (verdict_of (length i)) (sym (walk_is ∙ stays (judged i) (judge_lines First (take (line_length o) o ∷ []) (0 + sizes (ended_lines i))) f.fault.0))
              ∙ lines

      -- no fault is known: the open line without its end is judged
      module _ (l : Live w b i) (holds : b ≡ buffer_after i) where
        open_long : line_length o ≡ w.«open» - 2
        open_long =
            let e = line_left o ((open_law i).fine fine) (open_law i).goes in
            omega (arith, e, (open_law i).tail, two, l.line)

        line_here : take w.«open» (drop w.card.used b) ≡ o
        line_here = line_is w b i [] l holds (omega (arith, low)) (break_none w.tail [] refl)

        last_is : take (line_length o) o ≡ take (w.«open» - 2) (drop w.card.used b)
        last_is =
            ap (λ (k : ℕ). take k o) open_long
            ∙ ap (take (w.«open» - 2)) (sym line_here)
            ∙ take-take (w.«open» - 2) w.«open» (drop w.card.used b) (omega arith)

        place_is : 0 + sizes (ended_lines i) ≡ w.start
        place_is = omega (arith, (open_law i).size, size, l.line)

        abbrev line : List ℕ
        line = take (w.«open» - 2) (drop w.card.used b)

        walked : judge_lines First (raw_lines i) 0 fresh_card ≡ settled w.start line (judgement w.card b line w.start)
        unfolding judge_lines
        walked =
            walk_is
            ∙ ap (λ (x : Step). onward x (judge_lines First (take (line_length o) o ∷ []) (0 + sizes (ended_lines i)))) l.card
            ∙ ap (λ (p : ℕ). judge_lines First (take (line_length o) o ∷ []) p (card_of w.card b)) place_is
            ∙ ap (λ (x : List ℕ). judge_lines First (x ∷ []) w.start (card_of w.card b)) last_is
            ∙ on_end (settled w.start line (judgement w.card b line w.start))

        pub end_live : (x : Step) → x ≡ settled w.start line (judgement w.card b line w.start) → verdict_of (w.start + w.«open») x ≡ judge_of i
        end_live x e = ap (verdict_of (w.start + w.«open»)) (e ∙ sym walked) ∙ ap (λ (n : ℕ). verdict_of n (judge_lines First (raw_lines i) 0 fresh_card)) size ∙ lines
