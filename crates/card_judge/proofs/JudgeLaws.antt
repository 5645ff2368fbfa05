-- The judgement of a line by what was found of it: its faults and its parts. Assumes nothing.
use mathlib.Core.Path.{◌≡◌, refl, sym, ap, ◌∙◌}
use mathlib.Core.Bool.{Bool, true, false, not}
use mathlib.Core.List.{List, [], ◌∷◌}
use mathlib.Core.Option.{Option}
use Prim.Native.Nat.{ℕ, ◌+◌, ◌-◌, ◌≤◌}
use native.Mathlib.Omega.{arith}
use lib.ListN.{length, take, drop, length-drop}
use lib.Seq.{take_all}
use borrow.Author.Tests.{le-ltb}
use Rattle.octets.specs.Pick.{pick}
use Rattle.utf8.specs.Characters.{allowed, first_bad}
use Rattle.line_parser.specs.Parse.{Parse, got, bad}
use Rattle.line_parser.specs.Grammar.{Line}
use Rattle.line_parser.specs.Rule.{parse_line}
use Rattle.property_table.specs.declared.Edition.{Edition}
use Rattle.value_kinds.specs.Shapes.{Shape, nullable, dead, derivative, fault_from}
use Rattle.value_kinds.specs.Kinds.{line_shape, value_in}
use Rattle.value_kinds.specs.declared.Fault.{Fault}
use Rattle.value_kinds.specs.declared.Fault.TheVariants.{Fits, Breaks}
use Rattle.card_line.specs.Parts.{altid_name, altid_of, param_value, first_value, line_parts_by, line_parts_of}
use Rattle.card_state.specs.State.{Card, Step, Refused, in_order}
use Rattle.card_judge.specs.Judge.{laden, entered, fitting, judge_parts, judge_parsed, judge_line, added_at, added_parsed, added_by}
use Rattle.card_line.specs.declared.Parts.{Parts}
use Rattle.card_line.specs.Parts.{line, fault}
use Rattle.card_line.proofs.PartLaws.{Read, read_accepted, value_is}

-- the judgement by what the tests of 9, 8 and 7 answer
pub tests : (ed : Edition) (c : Card) (at row group params kind : ℕ) (altid : Option (List ℕ)) (start : ℕ) (v : List ℕ) {o l : Bool} {f : Fault}
    → o ≡ in_order c.phase row → l ≡ laden row group params → f ≡ value_in ed row kind v
    → judge_parts ed c at row group params kind altid start v ≡ pick (not o) (Refused 9 at) (pick l (Refused 8 at) (fitting start f (entered c at row altid v)))
unfolding judge_parts
tests ed c at row group params kind altid start v p q r = rw (p, q, r) (by (in_order c.phase row) _)
  where
    by : (o : Bool) (s : Step) → pick o s (Refused 9 at) ≡ pick (not o) (Refused 9 at) s
    by false s = refl
    by true s = refl

-- a fault lies within the value, or at its end
inside : (r : Shape) (i : ℕ) (v : List ℕ) (k : ℕ) → fault_from r i v ≡ Breaks k → k ≤ i + length v
unfolding fault_from
inside r i [] k e = by (nullable r) e
  where
    by : (t : Bool) → pick t Fits (Breaks i) ≡ Breaks k → k ≤ i + 0
    by true e = let z : ◌≡◌ {A = ℕ} 0 1 = cc in absurd (omega arith)
    by false e = let z : i ≡ k = cc in omega arith
inside r i (x ∷ xs) k e = by (dead (derivative x r)) e (λ f. inside (derivative x r) (i + 1) xs k f)
  where
    by : (t : Bool) → pick t (Breaks i) (fault_from (derivative x r) (i + 1) xs) ≡ Breaks k → (fault_from (derivative x r) (i + 1) xs ≡ Breaks k → k ≤ i + 1 + length xs) → k ≤ i + length (x ∷ xs)
    by true e f = let z : i ≡ k = cc in omega arith
    by false e f = omega (arith, f e)

pub fault_inside : (ed : Edition) (row kind : ℕ) (v : List ℕ) (k : ℕ) → value_in ed row kind v ≡ Breaks k → k ≤ length v
unfolding value_in
fault_inside ed row kind v k e = omega (arith, inside (line_shape ed row kind) 0 v k e)

module _ (ed : Edition) (c : Card) (at : ℕ) (l : List ℕ) (clean : length l ≤ first_bad (allowed false) l) where
  -- whole characters and no control: the line rule decides next
  next : judge_line ed c at l ≡ judge_parsed ed c at (parse_line l)
  unfolding judge_line
  next = simp (le-ltb (first_bad (allowed false) l) (length l) clean)

  pub refused : {e : ℕ} → fault e ≡ line_parts_of ed l → Refused e at ≡ judge_line ed c at l
  unfolding line_parts_of
  refused {e} h = by (parse_line l) h ∙ sym next
    where
      by : (m : Parse Line) → fault e ≡ line_parts_by ed m → Refused e at ≡ judge_parsed ed c at m
      by (bad x) h = let z : e ≡ x = cc in ap (λ (n : ℕ). Refused n at) z
      by (got x k) h = let z : ◌≡◌ {A = ℕ} 0 1 = cc in absurd (omega arith)

  -- the value is the rest of the line
  rest : (v : ℕ) → take (length l - v) (drop v l) ≡ drop v l
  rest v = take_all (length l - v) (drop v l) (rw length-drop (omega arith))

  pub judged : (x : Parts) → Read ed l x
      → judge_parts ed c at x.row x.group_length x.param_count x.kind (first_value altid_name l) x.value_start (take (length l - x.value_start) (drop x.value_start l)) ≡ judge_line ed c at l
  unfolding altid_of param_value
  judged x r =
      rw (rest x.value_start, r.row, r.group, r.params, r.kind, value_is l x.name_end (read_accepted ed l x r) altid_name, r.value)
      (sym (next ∙ ap (judge_parsed ed c at) r.parsed))

-- the octets that a line adds, by its parts
pub added_line : (ed : Edition) (seen : ℕ) (l : List ℕ) (x : Parts) → Read ed l x → added_at x.row seen (first_value altid_name l) ≡ added_by ed seen l
unfolding added_by altid_of param_value
added_line ed seen l x r =
    rw (r.row, value_is l x.name_end (read_accepted ed l x r) altid_name)
    (sym (ap (added_parsed ed seen) r.parsed))
