-- A side by its card's lines: fields, marks, 71 and 72. Assumes nothing.
use mathlib.Core.Path.{◌≡◌, refl, sym, ap, subst, ◌∙◌}
use mathlib.Core.Bool.{Bool, true, false}
use mathlib.Core.List.{List, [], ◌∷◌, ◌++◌, map}
use mathlib.Core.Logic.{◌↔◌}
use Prim.Native.Nat.{ℕ, suc, ◌+◌, ◌*◌, ◌/◌, ◌<◌, ◌≤◌}
use native.Mathlib.Nat.{mul-div_cancel}
use native.Mathlib.Omega.{arith}
use lib.Dec.{eqb, ltb}
use lib.ListN.{length, drop, get_or, replicate, length-replicate}
use borrow.Author.Tests.{ltb-true, ltb-false, eqb-true, eqb-false}
use Rattle.octets.specs.Pick.{pick}
use Rattle.octets.specs.Room.{overlay}
use Rattle.octets.proofs.Bools.{by, clash}
use Rattle.line_parser.specs.Grammar.{Param, Line, render}
use Rattle.line_parameters.proofs.Complete.{line_complete}
use Rattle.property_table.specs.declared.Edition.TheVariants.{First}
use Rattle.reader.specs.Outcome.{ended, copy_of, records_in, Taken}
use Rattle.reader_grammar.specs.Inputs.{InputOf}
use Rattle.reader_grammar.proofs.RecordLaws.{records_law}
use Rattle.merge_sources.specs.Row as row
use Rattle.merge_sources.specs.Row.{entries_from, row_of, same_row}
use Rattle.merge_sources.specs.declared.Source.{Source}
use Rattle.merge_sources.specs.declared.Row.{Row}
use Rattle.merge_pids.specs.Marks.{Mark, mark, Marked, marked, put_all}
use Rattle.merge_sides.specs.Sources.{over_entries}
use Rattle.merge_sides.specs.Marks.{line_marks, marks_from}
use Rattle.merge_partners.specs.Keys.{number_at}
use Rattle.merge.specs.Sides.{Side, side, read_of, marks_of, row_in, over_side, is_over}
use Rattle.merge_words.specs.Lists.{Member, At, first, later}
use Rattle.merge_words.specs.Pids.{PidOf}
use Rattle.merge_words.specs.Sources.{RowOf, Over}
use Rattle.merge_words.specs.Sources as over
use Rattle.merge_words.specs.Sides.{capped, MarkOf, MarksOf, SideOf, Sides}
use Rattle.merge_words.specs.ByLines.{params_pids, lines_pids, lines_sources}
use Rattle.merge_words.specs.Stands.{Stands, AllStand, none, more}
use Rattle.merge_words.proofs.Members.{at_member, at_below, member_get, member_at}
use Rattle.merge_words.proofs.NumberLaws.{capped_over, over_capped}
use Rattle.merge_words.proofs.PidLists.{line_marks_lem}
use Rattle.merge_words.proofs.MarkLaws.{marks_each, marks_every, marks_few}
use Rattle.merge_words.proofs.RoomLaws.{flat, put_all_lem, number_at_lem, over_in, over_marks_lem, High, high_line, high_first, high_source, over_some, over_none}
use Rattle.merge_words.proofs.StandLaws.{records_stand}
use Rattle.merge_words.proofs.RowLaws.{own_row_lem, rows_true, rows_same, over_row, under_row}
use Rattle.merge_words.proofs.SourceLaws.{narrow, AllMap, AllLow, cards_map, row_only, row_is, row_held, sources_count, source_line, line_source}
use Rattle.merge_words.proofs.ReadLaws.{ended_short, lines_few, read_of_lem, read_copy, read_answer}

-- ---- the marks of lines that stand in a copy

no_params : (i : ℕ) (ps : List Param) → length ps ≡ 0 → [] ≡ params_pids i ps
unfolding params_pids
no_params i [] e = refl
no_params i (p ∷ ps) e = absurd (omega arith)

marks_at : (c rs : List ℕ) (i w : ℕ) (x : Line) → Stands c rs i w x → i ≤ 4096 → line_marks c rs i ≡ params_pids i x.params
unfolding line_marks
marks_at c rs i w x s h = by (eqb (length x.params) 0)
    (λ t. rw (s.parameters, t) (no_params i x.params (eqb-true (length x.params) 0 t)))
    (λ t. rw (s.parameters, t, narrow i (omega arith), s.behind) (line_marks_lem i (render x) x _ (line_complete x s.formed)))

marks_from_lem : (c rs : List ℕ) {i w : ℕ} {xs : List Line} → AllStand c rs i w xs → i + length xs ≤ 4096 → marks_from c rs i (length xs) ≡ lines_pids i xs
unfolding marks_from lines_pids
marks_from_lem c rs none h = refl
marks_from_lem c rs (more {i = i} {w = w} {x = x} {xs = xs} s ss) h =
    let n : i + 1 ≡ suc i = omega arith in
    ap (λ (ms : List Mark). ms ++ marks_from c rs (i + 1) (length xs)) (marks_at c rs i w x s (omega arith))
    ∙ ap (λ (k : ℕ). params_pids i x.params ++ marks_from c rs k (length xs)) n
    ∙ ap (λ (ms : List Mark). params_pids i x.params ++ ms) (marks_from_lem c rs ss (omega arith))

-- ---- a line by its number

stands_from : (c rs : List ℕ) {i w : ℕ} {xs : List Line} → AllStand c rs i w xs → {j : ℕ} {x : Line} → At xs j x → (v : ℕ) × Stands c rs (i + j) v x
stands_from c rs none a = elim a [ ]
stands_from c rs (more {i = i} {w = w} {x = x} s ss) first =
    let e : i + 0 ≡ i = omega arith in
    (w, rw e s)
stands_from c rs (more {i = i} s ss) (later {i = j} a) =
    let r = stands_from c rs ss a in
    let e : i + suc j ≡ suc i + j = omega arith in
    (r.0, rw e r.1)

stands_at : (c rs : List ℕ) {xs : List Line} → AllStand c rs 0 0 xs → (j : ℕ) (x : Line) → At xs j x → (v : ℕ) × Stands c rs j v x
stands_at c rs s j x a =
    let r = stands_from c rs s a in
    let e : 0 + j ≡ j = omega arith in
    (r.0, rw e at r.1)

fits : (room : List ℕ) (m : ℕ) → length room ≡ 12288 → m * 4 ≤ 16384 → m * 3 ≤ length room
fits room m e h = omega arith

-- ---- tests one after the other

-- which of them fail
record Under (k m n : ℕ) (s t : Bool) : Type 0 where
  one : k ≡ 1
  lent : m ≤ 16
  own : n ≤ 16
  entries : s ≡ false
  marks : t ≡ false

abbrev Tests : ℕ → ℕ → ℕ → Bool → Bool → Bool
Tests k m n s t = pick (eqb k 1) (pick (ltb 16 m) true (pick (ltb 16 n) true (pick s true t))) true

fail : {A : Type 0} → true ≡ false → A
fail e = clash cc

under : (k m n : ℕ) (s t : Bool) → Tests k m n s t ≡ false → Under k m n s t
under k m n s t e =
    by (eqb k 1) (λ a. by (ltb 16 m) (λ b. fail (rw (a, b) at e)) (λ b. by (ltb 16 n) (λ d. fail (rw (a, b, d) at e)) (λ d.
    by s (λ f. fail (rw (a, b, d, f) at e))
    (λ f. record { one = eqb-true k 1 a; lent = ltb-false 16 m b; own = ltb-false 16 n d; entries = f; marks = rw (a, b, d, f) at e }))))
    (λ a. fail (rw a at e))

some_test : {A : Type 0} (k m n : ℕ) (s t : Bool) → Tests k m n s t ≡ true → ((k ≡ 1 → ⊥) → A) → (16 < m → A) → (16 < n → A) → (s ≡ true → A) → (t ≡ true → A) → A
some_test k m n s t e f₁ f₂ f₃ f₄ f₅ =
    by (eqb k 1) (λ a. by (ltb 16 m) (λ b. f₂ (ltb-true 16 m b)) (λ b. by (ltb 16 n) (λ d. f₃ (ltb-true 16 n d)) (λ d.
    by s f₄ (λ f. f₅ (rw (a, b, d, f) at e)))))
    (λ a. f₁ (eqb-false k 1 a))

-- ---- a side

module _ (c rs : List ℕ) (k n : ℕ) (xs : List Line) (is-n : n ≡ length xs) (st : AllStand c rs 0 0 xs) (few : length xs ≤ 4096) (short : length c ≤ 16384)
    (octets : length (ended (map render xs)) ≤ 16384) (maps : AllMap xs) where
  abbrev S : Side
  S = side c rs k n

  abbrev Es : List Source
  Es = lines_sources 0 xs

  abbrev Ms : List Mark
  Ms = lines_pids 0 xs

  low_c : length c ≤ 4294967295
  low_c = omega arith

  row_own : row_in S ≡ row_of Es
  unfolding row_in
  row_own = rw is-n (own_row_lem c rs st)

  pids_few : length Ms * 4 ≤ 16384
  pids_few = omega (arith, marks_few 0 xs)

  abbrev Behind : List ℕ
  Behind = drop (length Ms * 3) (replicate 12288 0)

  marks_own : marks_of S ≡ marked (length Ms * 3) (flat Ms ++ Behind)
  unfolding marks_of
  marks_own =
      let e : marks_from c rs 0 n ≡ Ms = ap (marks_from c rs 0) is-n ∙ marks_from_lem c rs st (omega arith) in
      let z : 0 + length Ms * 3 ≡ length Ms * 3 = omega arith in
      ap (put_all (marked 0 (replicate 12288 0))) e
      ∙ put_all_lem Ms [] (replicate 12288 0) (fits (replicate 12288 0) (length Ms) (length-replicate {A = ℕ} 12288 0) pids_few)
      ∙ ap (λ (m : ℕ). marked m (flat Ms ++ Behind)) z

  number_of : (f : ℕ) → f < 3 → (j : ℕ) (m : Mark) → At Ms j m → number_at (marks_of S).room j f ≡ get_or (m.line ∷ m.first ∷ m.source ∷ []) f 0
  number_of f h j m a =
      ap (λ (s : Marked). number_at s.room j f) marks_own ∙ number_at_lem Ms Behind (omega (arith, pids_few)) a f h

  marked_all : MarksOf S xs
  marked_all = record {
    marks = Ms;
    few = omega (arith, pids_few);
    many = ap (λ (s : Marked). s.next / 3) marks_own ∙ mul-div_cancel (length Ms) (omega arith);
    lines = number_of 0 (omega arith);
    firsts = number_of 1 (omega arith);
    sources = number_of 2 (omega arith);
    each = marks_each xs;
    every = marks_every xs;
  }

  module _ (m : List Source) where
    abbrev Over-entries : Bool
    Over-entries = over_entries (entries_from Es 0 16) 0 16

    over_by : is_over S (row_of m) ≡ Tests k (length m) (length Es) Over-entries (over_in (flat Ms))
    unfolding is_over over_side row_of
    over_by =
        ap (λ (r : Row). over_side k (length m) r (marks_of S)) row_own
        ∙ ap (λ (s : Marked). over_side k (length m) (row_of Es) s) marks_own
        ∙ rw (over_marks_lem Ms Behind)

    high_over : (a : Mark) → MarkOf xs a → a.line ≤ 65535 → High a → Over k xs m
    high_over a o l (high_line h) = absurd (omega arith)
    high_over a o l (high_first h) =
        over.first (at_member o.at) o.pid (capped_over o.first (subst (λ (p : ℕ). 65535 < p) o.first_is h))
    high_over a o l (high_source h) =
        over.source (at_member o.at) o.pid (capped_over o.source (subst (λ (p : ℕ). 65535 < p) o.source_is h))

    line_low : (a : Mark) → MarkOf xs a → a.line ≤ 65535
    line_low a o = omega (arith, at_below o.at)

    -- 71 is given only where a limit is passed
    over_so : is_over S (row_of m) ≡ true → Over k xs m
    over_so e =
        some_test k (length m) (length Es) Over-entries (over_in (flat Ms)) (sym over_by ∙ e)
        (λ d. over.several d)
        (λ h. over.entries h)
        (λ h. over.maps (omega (arith, sources_count 0 xs)))
        (λ t.
        let r = over_row Es t in
        let l = source_line c rs low_c st maps r.source r.member in
        over.number l.member l.maps (capped_over l.number (subst (λ (p : ℕ). 65535 < p) l.number_is r.larger)))
        (λ t.
        let r = over_some Ms t in
        let o = marks_each xs r.mark r.member in
        high_over r.mark o (line_low r.mark o) r.high)

    -- where it is not given, all is within the limits
    module _ (e : is_over S (row_of m) ≡ false) where
      passed : Under k (length m) (length Es) Over-entries (over_in (flat Ms))
      passed = under k (length m) (length Es) Over-entries (over_in (flat Ms)) (sym over_by ∙ e)

      all_low : AllLow xs
      all_low x h a u t =
          let r = line_source c rs low_c st h a u t in
          let g = member_get r.member row.none in
          let q : (get_or Es g.0 row.none).number ≤ 65535 = under_row Es passed.own passed.entries g.0 g.1 in
          let p : (get_or Es g.0 row.none).number ≡ capped a = ap (λ (s : Source). s.number) g.2 ∙ r.number_is in
          by (ltb 65535 a) (λ b. absurd (omega (arith, over_capped a (ltb-true 65535 a b), p, q))) (λ b. ltb-false 65535 a b)

      pid_low : (x : Line) → Member x xs → (p s : ℕ) → PidOf x p s → (p ≤ 65535) × (s ≤ 65535)
      pid_low x h p s o =
          let a = member_at h in
          let l = over_none Ms passed.marks (mark a.0 (capped p) (capped s)) (marks_every xs a.0 p s x a.1 o) in (
            by (ltb 65535 p) (λ b. absurd (omega (arith, over_capped p (ltb-true 65535 p b), l.first))) (λ b. ltb-false 65535 p b),
            by (ltb 65535 s) (λ b. absurd (omega (arith, over_capped s (ltb-true 65535 s b), l.source))) (λ b. ltb-false 65535 s b),
          )

      never_over : Over k xs m → ⊥
      never_over (over.several d) = d passed.one
      never_over (over.entries h) = omega (arith, passed.lent)
      never_over (over.maps h) = omega (arith, passed.own, sources_count 0 xs)
      never_over (over.number {x = x} {n = a} {uri = u} h t b) = omega (arith, all_low x h a u t)
      never_over (over.first {x = x} {p = p} {s = s} h o b) = omega (arith, (pid_low x h p s o).0)
      never_over (over.source {x = x} {p = p} {s = s} h o b) = omega (arith, (pid_low x h p s o).1)

      -- 72 exactly
      row_so : same_row (row_in S) (row_of m) ≡ true → RowOf 0 xs m
      row_so t =
          let q : same_row (row_of Es) (row_of m) ≡ true = ap (λ (r : Row). same_row r (row_of m)) (sym row_own) ∙ t in
          subst (RowOf 0 xs) (rows_true Es m passed.lent q) (row_is c rs low_c st maps all_low)

      so_row : RowOf 0 xs m → same_row (row_in S) (row_of m) ≡ true
      so_row r =
          ap (λ (a : Row). same_row a (row_of m)) row_own
          ∙ ap (λ (a : List Source). same_row (row_of Es) (row_of a)) (row_only c rs low_c r st all_low)
          ∙ rows_same Es

    over_law : (is_over S (row_of m) ≡ true) ↔ Over k xs m
    over_law = (over_so, λ o. by (is_over S (row_of m)) (λ e. e) (λ e. absurd (never_over e o)))

  pub side_is : SideOf S xs
  side_is = record {
    count = is-n;
    few = few;
    property = λ i x a. (stands_at c rs st i x a).1.property;
    name = λ i x a. (stands_at c rs st i x a).1.name;
    value = λ i x a. (stands_at c rs st i x a).1.value;
    marked = marked_all;
    over = over_law;
    row = λ m e. (row_so m e, so_row m e);
    held = λ m e r. row_held c rs low_c r st;
  }

-- ---- every accepted input leaves such a side

side_in : (i : List ℕ) (k n : ℕ) (h : InputOf i k n) (room numbers : List ℕ) → length (overlay (copy_of i) room) ≡ 16384
    → SideOf (side (overlay (copy_of i) room) (overlay (records_in First i) numbers) k n) h.lines
side_in i k n h room numbers e =
    let copy = overlay (copy_of i) room in
    let few = lines_few i k n h in
    let told = records_law First i k n h (drop (length (copy_of i)) room) in
    let st : AllStand copy (overlay (records_in First i) numbers) 0 0 h.lines =
    records_stand copy told h.readable [] (drop (length (records_in First i)) numbers) 0 refl (omega arith) in
    side_is copy (overlay (records_in First i) numbers) k n h.lines h.count st few (omega arith) (ended_short i k n h) (cards_map h.cards)

side_of : (i : List ℕ) (k n : ℕ) (h : InputOf i k n) → SideOf (side (read_of i).copy (read_of i).records k n) h.lines
side_of i k n h =
    subst (λ (t : Taken). SideOf (side t.copy t.records k n) h.lines) (sym (read_of_lem i k n h))
    (side_in i k n h (replicate 16384 0) (replicate 32768 0) (read_copy i k n h))

pub sides_law : Sides
sides_law = record { judged = read_answer; sides = side_of }
