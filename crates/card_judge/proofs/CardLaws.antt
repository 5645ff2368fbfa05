-- What a line satisfies that was judged and passed, and where the parts of a line lie. Assumes nothing.
use mathlib.Core.Path.{◌≡◌, refl, ap}
use mathlib.Core.Bool.{Bool, true, false, not, ◌&&◌}
use mathlib.Core.List.{List}
use mathlib.Core.Option.{Option}
use Prim.Native.Nat.{ℕ, ◌+◌, ◌<◌, ◌≤◌}
use native.Mathlib.Omega.{arith}
use lib.Dec.{eqb, ltb}
use lib.ListN.{length}
use borrow.Author.Tests.{ltb-false, eqb-true}
use Rattle.octets.specs.Pick.{pick}
use Rattle.utf8.specs.Characters.{allowed, first_bad}
use Rattle.utf8.proofs.Chars.{bad_le}
use Rattle.line_parser.specs.Parse.{Parse, got, bad, hd}
use Rattle.line_parser.specs.Grammar.{Line, name_end}
use Rattle.line_parser.specs.Rule.{parse_line}
use Rattle.line_parser.specs.Places.{outcome, name_start}
use Rattle.line_parser.proofs.Inside.{InLine, in_line}
use Rattle.line_parameters.proofs.PlacesLaw.{accepted_starts}
use Rattle.property_table.specs.declared.Edition.{Edition}
use Rattle.property_table.specs.Rows.{is_group}
use Rattle.value_kinds.specs.Kinds.{value_in}
use Rattle.value_kinds.specs.declared.Fault.{Fault}
use Rattle.value_kinds.specs.declared.Fault.TheVariants.{Fits, Breaks}
use Rattle.card_state.specs.State.{Card, Step, Next, Refused, Flawed, in_order, second_instance, line_card, noted, closed}
use Rattle.card_line.specs.Parts.{row_of_line, kind_of_line, altid_of, line_parts_by, line_parts_of}
use Rattle.card_judge.specs.Judge.{laden, entered, fitting, judge_parts, judge_parsed, judge_line}
use Rattle.card_line.specs.declared.Parts.{Parts}
use Rattle.card_line.specs.Parts.{line}
use Rattle.card_line.proofs.PartLaws.{row_of_line_lem, kind_of_line_lem}

-- a choice that was not refused
module _ {C : Type 0} {c : Card} (n p : ℕ) where
  pub unless : (t : Bool) (s : Step) → pick t (Refused n p) s ≡ Next c → (t ≡ false → s ≡ Next c → C) → C
  unless true s e f = let z : ◌≡◌ {A = ℕ} 0 1 = cc in absurd (omega arith)
  unless false s e f = f refl e

  pub only : (t : Bool) (s : Step) → pick t s (Refused n p) ≡ Next c → (t ≡ true → s ≡ Next c → C) → C
  only true s e f = f refl e
  only false s e f = let z : ◌≡◌ {A = ℕ} 0 1 = cc in absurd (omega arith)

  flawless : (t : Bool) (s : Step) → pick t (Flawed n p) s ≡ Next c → (t ≡ false → s ≡ Next c → C) → C
  flawless true s e f = let z : ◌≡◌ {A = ℕ} 0 1 = cc in absurd (omega arith)
  flawless false s e f = f refl e

fitted : {C : Type 0} {c : Card} (start : ℕ) (f : Fault) (s : Step) → fitting start f s ≡ Next c → (f ≡ Fits → s ≡ Next c → C) → C
fitted start Fits s e g = g refl e
fitted start (Breaks n) s e g = let z : ◌≡◌ {A = ℕ} 0 1 = cc in absurd (omega arith)

-- a line that was passed: it is clean, it has parts, they stand in order, and the state after it is what the card makes of it
pub record Passed (ed : Edition) (c : Card) (at : ℕ) (l : List ℕ) (c' : Card) : Type 0 where
  pub clean : first_bad (allowed false) l ≡ length l
  pub parts : Line
  pub start : ℕ
  pub parsed : parse_line l ≡ got parts start
  pub order : in_order c.phase (row_of_line ed parts) ≡ true
  pub unladen : laden (row_of_line ed parts) (length parts.group) (length parts.params) ≡ false
  pub fits : value_in ed (row_of_line ed parts) (kind_of_line ed parts) parts.value ≡ Fits
  pub after : entered c at (row_of_line ed parts) (altid_of parts) parts.value ≡ Next c'

with_parts : (ed : Edition) (c c' : Card) (at : ℕ) (l : List ℕ) (x : Line) (k : ℕ) → parse_line l ≡ got x k → first_bad (allowed false) l ≡ length l
    → judge_parts ed c at (row_of_line ed x) (length x.group) (length x.params) (kind_of_line ed x) (altid_of x) k x.value ≡ Next c' → Passed ed c at l c'
unfolding judge_parts
with_parts ed c c' at l x k p d q =
    only 9 at (in_order c.phase (row_of_line ed x)) _ q (λ o q₁.
    unless 8 at (laden (row_of_line ed x) (length x.group) (length x.params)) _ q₁ (λ u q₂.
    fitted k (value_in ed (row_of_line ed x) (kind_of_line ed x) x.value) _ q₂ (λ f q₃.
    record { clean = d; parts = x; start = k; parsed = p; order = o; unladen = u; fits = f; after = q₃ })))

pub passed : (ed : Edition) (c c' : Card) (at : ℕ) (l : List ℕ) → judge_line ed c at l ≡ Next c' → Passed ed c at l c'
unfolding judge_line
passed ed c c' at l e =
    flawless 5 _ (ltb (first_bad (allowed false) l) (length l)) (judge_parsed ed c at (parse_line l)) e (λ t q.
    by (parse_line l) refl q (omega (arith, ltb-false (first_bad (allowed false) l) (length l) t, bad_le (allowed false) l)))
  where
    by : (m : Parse Line) → parse_line l ≡ m → judge_parsed ed c at m ≡ Next c' → first_bad (allowed false) l ≡ length l → Passed ed c at l c'
    by (bad x) p q d = let z : ◌≡◌ {A = ℕ} 0 1 = cc in absurd (omega arith)
    by (got x k) p q d = with_parts ed c c' at l x k p d q

-- the counts after a line: one line more, and one card more at END
pub record Counted (c c' : Card) : Type 0 where
  pub lines : c'.lines ≡ c.lines + 1
  pub kept : c.cards ≤ c'.cards
  pub raised : c'.cards ≤ c.cards + 1

of_equal : {x c c' : Card} → x ≡ c' → x.lines ≡ c.lines + 1 → c.cards ≤ x.cards → x.cards ≤ c.cards + 1 → Counted c c'
of_equal {x} e a b d =
    let l = ap (λ (y : Card). y.lines) e in
    let k = ap (λ (y : Card). y.cards) e in
    record { lines = omega arith; kept = omega arith; raised = omega arith }

next_is : {x y : Card} → Next x ≡ Next y → x ≡ y
next_is e = cc

closed_counts : (c c' : Card) (at : ℕ) → closed c at ≡ Next c' → Counted c c'
unfolding closed
closed_counts c c' at e =
    only 11 at c.has_fn _ e (λ t q. unless 12 at (c.has_member && not c.is_group) _ q (λ u r. of_equal (next_is r) refl (omega arith) (omega arith)))

noted_counts : (c c' : Card) (at row : ℕ) (altid : Option (List ℕ)) (group : Bool) → noted c at row altid group ≡ Next c' → Counted c c'
unfolding noted line_card
noted_counts c c' at row altid group e =
    unless 10 at (second_instance c row altid) _ e (λ t q. of_equal (next_is q) refl (omega arith) (omega arith))

entered_counts : (c c' : Card) (at row : ℕ) (altid : Option (List ℕ)) (v : List ℕ) → entered c at row altid v ≡ Next c' → Counted c c'
unfolding entered
entered_counts c c' at row altid v e = by (eqb row 2) e
  where
    by : (t : Bool) → pick t (closed c at) (noted c at row altid (is_group v)) ≡ Next c' → Counted c c'
    by true q = closed_counts c c' at q
    by false q = noted_counts c c' at row altid (is_group v) q

-- a judged line is one line more, and at most one card more
pub one_more : (ed : Edition) (c c' : Card) (p : ℕ) (l : List ℕ) → judge_line ed c p l ≡ Next c'
    → (c'.lines ≡ c.lines + 1) × (c.cards ≤ c'.cards) × (c'.cards ≤ c.cards + 1)
one_more ed c c' p l e =
    let w = passed ed c c' p l e in
    let k = entered_counts c c' p (row_of_line ed w.parts) (altid_of w.parts) w.parts.value w.after in
    (k.lines, k.kept, k.raised)

-- a line that was passed has whole characters and no control, is not empty, and starts with neither space nor tab
pub line_clean : (ed : Edition) (c c' : Card) (p : ℕ) (l : List ℕ) → judge_line ed c p l ≡ Next c'
    → (first_bad (allowed false) l ≡ length l) × (hd l ≡ 32 → ⊥) × (hd l ≡ 9 → ⊥) × (0 < length l)
line_clean ed c c' p l e =
    let w = passed ed c c' p l e in
    let s = accepted_starts l w.parts w.start w.parsed in
    (w.clean, s.no_space, s.no_tab, s.some)

-- where the parts of a line lie
pub record Within (l : List ℕ) (x : Parts) : Type 0 where
  pub places : InLine l x.group_length x.name_end x.param_count x.value_start
  pub row : x.row < 44
  pub kind : x.kind < 12

pub parts_within : (ed : Edition) (l : List ℕ) (x : Parts) → line_parts_of ed l ≡ line x → Within l x
unfolding line_parts_of
parts_within ed l x e = by (parse_line l) refl e
  where
    by : (m : Parse Line) → parse_line l ≡ m → line_parts_by ed m ≡ line x → Within l x
    by (bad n) p q = let z : ◌≡◌ {A = ℕ} 0 1 = cc in absurd (omega arith)
    by (got y k) p q =
        let w : x ≡ record { row = row_of_line ed y; group_length = length y.group; name_end = name_end y; param_count = length y.params; value_start = k; kind = kind_of_line ed y } = cc in
        rw w record {
          places = in_line l (length y.group) (name_end y) (length y.params) k (ap outcome p);
          row = row_of_line_lem ed y;
          kind = kind_of_line_lem ed y;
        }

group_before : (g n : ℕ) → name_start g < n → g ≤ n
group_before g n h = by (eqb g 0) refl h
  where
    by : (t : Bool) → eqb g 0 ≡ t → pick t 0 (g + 1) < n → g ≤ n
    by true e h = omega (arith, eqb-true g 0 e)
    by false e h = omega arith

-- the same as bounds on the numbers
pub parts_fit : (ed : Edition) (l : List ℕ) (x : Parts) → line_parts_of ed l ≡ line x
    → (x.name_end ≤ length l) × (x.value_start ≤ length l) × (x.group_length ≤ x.name_end) × (x.param_count ≤ length l) × (x.row < 44) × (x.kind < 12)
parts_fit ed l x e =
    let w = parts_within ed l x e in
    let p = w.places in
    (omega (arith, p.params, p.value), p.value, group_before x.group_length x.name_end p.name, omega (arith, p.params, p.value), w.row, w.kind)

-- the name does not end before it starts
pub name_long : (ed : Edition) (l : List ℕ) (x : Parts) → line_parts_of ed l ≡ line x → name_start x.group_length ≤ x.name_end
name_long ed l x e = omega (arith, (parts_within ed l x e).places.name)
