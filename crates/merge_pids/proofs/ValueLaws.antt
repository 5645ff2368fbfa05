-- The values of a PID parameter, one after the other. Assumes nothing.
use mathlib.Core.Path.{◌≡◌, refl, sym, ap, ◌∙◌}
use mathlib.Core.List.{List, [], ◌++◌}
use Prim.Native.Nat.{ℕ, zero, suc, ◌+◌, ◌-◌, ◌<◌, ◌≤◌}
use native.Mathlib.Omega.{arith}
use lib.Dec.{eqb}
use lib.ListN.{length, take, drop, drop_of_length-le}
use lib.Seq.{drop-drop}
use borrow.Author.Tests.{eq-eqb, ne_eqb}
use Rattle.octets.specs.Pick.{pick}
use Rattle.octets.specs.Classes.{run, bare, quoted}
use Rattle.octets.proofs.Bools.{by}
use Rattle.line_parser.specs.Parse.{hd}
use Rattle.merge_pids.specs.Numbers.{pid_of}
use Rattle.merge_pids.specs.Marks.{Marked, put_all, value_marks, span_at, body_at, width_at, values_marks}
use Rattle.merge_pids.specs.declared.Span.{Span}
use Rattle.merge_pids.proofs.MarkLaws.{put_append}

-- the octets and the end of the value at a place
module _ (s : List ℕ) (place : ℕ) where
  abbrev L : List ℕ
  L = drop place s

  pub span_body : take ((span_at place L).end - (span_at place L).start) (drop (span_at place L).start s) ≡ body_at L
  unfolding span_at body_at
  span_body = by (eqb (hd L) 34)
      (λ e.
      let n : place + 1 + run quoted (drop 1 L) - (place + 1) ≡ run quoted (drop 1 L) = omega arith in
      rw (e, n, drop-drop 1 place s))
      (λ e.
      let n : place + run bare L - place ≡ run bare L = omega arith in
      rw (e, n))

  pub span_width : (span_at place L).next ≡ place + width_at L
  unfolding span_at width_at
  span_width = by (eqb (hd L) 34) (λ e. rw e (omega arith)) (λ e. rw e)

-- a turn
values_turn : (i n : ℕ) (l : List ℕ) → 0 < n
    → values_marks i n l ≡ value_marks i (pid_of (body_at l)) ++ pick (eqb (hd (drop (width_at l) l)) 44) (values_marks i (n - 1) (drop (width_at l + 1) l)) []
unfolding values_marks
values_turn i zero l h = absurd (omega arith)
values_turn i (suc n) l h = let e : suc n - 1 ≡ n = omega arith in rw e

values_of_none : (i n : ℕ) → values_marks i n [] ≡ []
unfolding values_marks body_at width_at pid_of run
values_of_none i zero = refl
values_of_none i (suc n) = refl

pub values_none : (i n : ℕ) (s : List ℕ) (place : ℕ) → length s ≤ place → values_marks i n (drop place s) ≡ []
values_none i n s place h = ap (values_marks i n) (drop_of_length-le s h) ∙ values_of_none i n

module _ (i n : ℕ) (pos : 0 < n) (s : List ℕ) (place : ℕ) (v : Span) (is-v : v ≡ span_at place (drop place s)) (st : Marked) where
  abbrev Body : List ℕ
  Body = take (v.end - v.start) (drop v.start s)

  body : Body ≡ body_at (drop place s)
  body = ap (λ (w : Span). take (w.end - w.start) (drop w.start s)) is-v ∙ span_body s place

  next : v.next ≡ place + width_at (drop place s)
  next = ap (λ (w : Span). w.next) is-v ∙ span_width s place

  pub values_further : place ≤ v.next
  values_further = omega (arith, next)

  here : drop (width_at (drop place s)) (drop place s) ≡ drop v.next s
  here = drop-drop (width_at (drop place s)) place s ∙ ap (λ (k : ℕ). drop k s) (sym next)

  past : drop (width_at (drop place s) + 1) (drop place s) ≡ drop (v.next + 1) s
  past =
      let e : place + (width_at (drop place s) + 1) ≡ v.next + 1 = omega (arith, next) in
      drop-drop (width_at (drop place s) + 1) place s ∙ ap (λ (k : ℕ). drop k s) e

  turn : put_all st (values_marks i n (drop place s)) ≡ put_all (put_all st (value_marks i (pid_of Body))) (pick (eqb (hd (drop v.next s)) 44) (values_marks i (n - 1) (drop (v.next + 1) s)) [])
  turn =
      ap (put_all st) (values_turn i n (drop place s) pos ∙ rw (← body, here, past))
      ∙ put_append st (value_marks i (pid_of Body)) _

  pub values_stop : (hd (drop v.next s) ≡ 44 → ⊥) → put_all st (values_marks i n (drop place s)) ≡ put_all st (value_marks i (pid_of Body))
  unfolding put_all
  values_stop h = turn ∙ rw (ne_eqb (hd (drop v.next s)) 44 h)

  pub values_on : hd (drop v.next s) ≡ 44 → put_all st (values_marks i n (drop place s)) ≡ put_all (put_all st (value_marks i (pid_of Body))) (values_marks i (n - 1) (drop (v.next + 1) s))
  values_on h = turn ∙ rw (eq-eqb (hd (drop v.next s)) 44 h)
