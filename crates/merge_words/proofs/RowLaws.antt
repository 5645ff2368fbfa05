-- Rows of sources as lists: a card's own row is that of its sources, and two rows are the same where the lists are. Assumes nothing.
use mathlib.Core.Path.{◌≡◌, refl, sym, ap, ◌∙◌}
use mathlib.Core.Bool.{true, false}
use mathlib.Core.List.{List, [], ◌∷◌, ◌++◌, append_assoc, append-nil}
use Prim.Native.Nat.{ℕ, zero, suc, ◌+◌, ◌<◌, ◌≤◌}
use native.Mathlib.Omega.{arith}
use lib.Dec.{eqb, ltb}
use lib.ListN.{length, get_or, set, length-append, length-set, get_or-append, get_or-eq_default}
use lib.Seq.{ext_get_or, get_or-set_same, get_or-set_other, get_or-append_seam}
use borrow.Author.Tests.{ltb-true, ltb-false, eqb-true, eqb-false, eq-eqb}
use Rattle.octets.specs.Pick.{pick}
use Rattle.octets.proofs.Bools.{by, clash}
use Rattle.line_parser.specs.Grammar.{Line, front, render}
use Rattle.property_table.specs.declared.Edition.TheVariants.{First}
use Rattle.card_line.specs.Parts.{row_of_line}
use Rattle.merge_sources.specs.Row as row
use Rattle.merge_sources.specs.Row.{put, filled, entries_from, row_of, same_entry, same_entries, same_row}
use Rattle.merge_sources.specs.declared.Source.{Source}
use Rattle.merge_sources.specs.declared.Row.{Row}
use Rattle.merge_sides.specs.Sources.{source_in, source_at, with_source, with_line, with_lines, own_row, over_entries}
use Rattle.merge_words.specs.Lists.{Member}
use Rattle.merge_words.specs.ByLines.{lines_sources}
use Rattle.merge_words.specs.Stands.{Stands, AllStand, none, more}
use Rattle.merge_words.proofs.Members.{get_member}

-- ---- the entries of a row

entries_length : (ys : List Source) (i k : ℕ) → length (entries_from ys i k) ≡ k
unfolding entries_from
entries_length ys i zero = refl
entries_length ys i (suc k) = ap suc (entries_length ys (i + 1) k)

entries_from_lem : (ys : List Source) (i k j : ℕ) → j < k → get_or (entries_from ys i k) j row.none ≡ get_or ys (i + j) row.none
unfolding entries_from
entries_from_lem ys i zero j h = absurd (omega arith)
entries_from_lem ys i (suc k) zero h =
    let e : i + 0 ≡ i = omega arith in
    rw e
entries_from_lem ys i (suc k) (suc j) h =
    let e : i + suc j ≡ i + 1 + j = omega arith in
    rw e (entries_from_lem ys (i + 1) k j (omega arith))

pub entries_at : (ys : List Source) (j : ℕ) → j < 16 → get_or (entries_from ys 0 16) j row.none ≡ get_or ys j row.none
entries_at ys j h =
    let e : 0 + j ≡ j = omega arith in
    rw e at (entries_from_lem ys 0 16 j h)

alike : (ys zs : List Source) → ((j : ℕ) → j < 16 → get_or ys j row.none ≡ get_or zs j row.none) → entries_from ys 0 16 ≡ entries_from zs 0 16
alike ys zs f =
    ext_get_or row.none (entries_from ys 0 16) (entries_from zs 0 16) (entries_length ys 0 16 ∙ sym (entries_length zs 0 16))
    (λ j h.
    let g : j < 16 = omega (arith, entries_length ys 0 16) in
    entries_at ys j g ∙ f j g ∙ sym (entries_at zs j g))

-- ---- one source more

module _ (es : List Source) (e : Source) where
  abbrev On : List Source
  On = es ++ e ∷ []

  there : (j : ℕ) → (j ≡ length es → ⊥) → get_or es j row.none ≡ get_or On j row.none
  there j h = by (ltb j (length es))
      (λ t. sym (get_or-append es (e ∷ []) row.none j (ltb-true j (length es) t)))
      (λ t.
      let g = ltb-false j (length es) t in
      let m : length On ≤ j = omega (arith, length-append es (e ∷ []), h) in
      get_or-eq_default es row.none {n = j} g ∙ sym (get_or-eq_default On row.none {n = j} m))

  entry_in : length es < 16 → set (entries_from es 0 16) (length es) e ≡ entries_from On 0 16
  entry_in h =
      let n = entries_length es 0 16 in
      ext_get_or row.none (set (entries_from es 0 16) (length es) e) (entries_from On 0 16)
      (length-set (entries_from es 0 16) (length es) e ∙ n ∙ sym (entries_length On 0 16))
      (λ j g.
      let k : j < 16 = omega (arith, length-set (entries_from es 0 16) (length es) e, n) in
      by (eqb j (length es))
      (λ t.
      let q = eqb-true j (length es) t in
      rw q (get_or-set_same (entries_from es 0 16) (length es) e row.none (omega (arith, n)) ∙ sym (entries_at On (length es) h ∙ get_or-append_seam es e [] row.none)))
      (λ t.
      let q = eqb-false j (length es) t in
      get_or-set_other (entries_from es 0 16) (length es) j e row.none q ∙ entries_at es j k ∙ there j q ∙ sym (entries_at On j k)))

  entry_out : 16 ≤ length es → entries_from es 0 16 ≡ entries_from On 0 16
  entry_out h = alike es On (λ j g. there j (λ q. omega arith))

  source_put : with_source (row_of es) e ≡ row_of On
  unfolding with_source row_of put
  source_put =
      let n : length es + 1 ≡ length On = sym (length-append es (e ∷ [])) in
      by (ltb (length es) 16)
      (λ t. rw (t, n, entry_in (ltb-true (length es) 16 t)))
      (λ t. rw (t, n, entry_out (ltb-false (length es) 16 t)))

-- ---- a card's own row

abbrev pub SourceOf : ℕ → Line → List Source
SourceOf w x = pick (eqb (row_of_line First x) 32) (source_in x.value (w + length (front x)) ∷ []) []

line_put : (c rs : List ℕ) (i w : ℕ) (x : Line) → Stands c rs i w x → (es : List Source) → with_line (row_of es) c rs i ≡ row_of (es ++ SourceOf w x)
unfolding with_line source_at
line_put c rs i w x s es =
    by (eqb (row_of_line First x) 32)
    (λ t. rw (s.property, t, s.value, s.place) (source_put es (source_in x.value (w + length (front x)))))
    (λ t. rw (s.property, t) (ap row_of (sym (append-nil es))))

lines_put : (c rs : List ℕ) {i w : ℕ} {xs : List Line} → AllStand c rs i w xs → (es : List Source)
    → with_lines (row_of es) c rs i (length xs) ≡ row_of (es ++ lines_sources w xs)
unfolding with_lines lines_sources
lines_put c rs none es = ap row_of (sym (append-nil es))
lines_put c rs (more {i = i} {w = w} {x = x} {xs = xs} s ss) es =
    let n : i + 1 ≡ suc i = omega arith in
    let rest = lines_sources (w + length (render x) + 2) xs in
    ap (λ (r : Row). with_lines r c rs (i + 1) (length xs)) (line_put c rs i w x s es)
    ∙ ap (λ (k : ℕ). with_lines (row_of (es ++ SourceOf w x)) c rs k (length xs)) n
    ∙ lines_put c rs ss (es ++ SourceOf w x)
    ∙ ap row_of (append_assoc es (SourceOf w x) rest)

pub own_row_lem : (c rs : List ℕ) {xs : List Line} → AllStand c rs 0 0 xs → own_row c rs (length xs) ≡ row_of (lines_sources 0 xs)
unfolding own_row filled row_of entries_from
own_row_lem c rs s = lines_put c rs s []

-- ---- two rows

source_by : (n p l m q k : ℕ) → n ≡ m → p ≡ q → l ≡ k
    → ◌≡◌ {A = Source} (record { number = n; place = p; length = l }) (record { number = m; place = q; length = k })
source_by n p l m q k e f g = rw (e, f, g)

pub same_source : (a b : Source) → a.number ≡ b.number → a.place ≡ b.place → a.length ≡ b.length → a ≡ b
same_source a b e f g = source_by a.number a.place a.length b.number b.place b.length e f g

entry_true : (a b : Source) → same_entry a b ≡ true → a ≡ b
unfolding same_entry
entry_true a b e =
    by (eqb a.number b.number)
    (λ t.
    by (eqb a.place b.place)
    (λ u.
    let v : eqb a.length b.length ≡ true = rw (t, u) at e in
    same_source a b (eqb-true a.number b.number t) (eqb-true a.place b.place u) (eqb-true a.length b.length v))
    (λ u.
    let v : false ≡ true = rw (t, u) at e in
    clash cc))
    (λ t.
    let v : false ≡ true = rw t at e in
    clash cc)

entry_same : (a : Source) → same_entry a a ≡ true
unfolding same_entry
entry_same a = rw (eq-eqb a.number a.number refl, eq-eqb a.place a.place refl, eq-eqb a.length a.length refl)

entries_true : (xs ys : List Source) (i k : ℕ) → same_entries xs ys i k ≡ true → (j : ℕ) → j < k → get_or xs (i + j) row.none ≡ get_or ys (i + j) row.none
unfolding same_entries
entries_true xs ys i zero e j h = absurd (omega arith)
entries_true xs ys i (suc k) e j h =
    by (same_entry (get_or xs i row.none) (get_or ys i row.none))
    (λ t. here j h (entries_true xs ys (i + 1) k (rw t at e)) (entry_true (get_or xs i row.none) (get_or ys i row.none) t))
    (λ t.
    let v : false ≡ true = rw t at e in
    clash cc)
  where
    here : (j : ℕ) → j < suc k → ((j : ℕ) → j < k → get_or xs (i + 1 + j) row.none ≡ get_or ys (i + 1 + j) row.none)
        → get_or xs i row.none ≡ get_or ys i row.none → get_or xs (i + j) row.none ≡ get_or ys (i + j) row.none
    here zero h f g =
        let q : i + 0 ≡ i = omega arith in
        rw q g
    here (suc j) h f g =
        let q : i + suc j ≡ i + 1 + j = omega arith in
        rw q (f j (omega arith))

entries_same : (xs : List Source) (i k : ℕ) → same_entries xs xs i k ≡ true
unfolding same_entries
entries_same xs i zero = refl
entries_same xs i (suc k) = rw (entry_same (get_or xs i row.none), entries_same xs (i + 1) k)

pub rows_true : (es ms : List Source) → length ms ≤ 16 → same_row (row_of es) (row_of ms) ≡ true → es ≡ ms
unfolding same_row row_of
rows_true es ms h e =
    by (eqb (length es) (length ms))
    (λ t.
    let n = eqb-true (length es) (length ms) t in
    let v : same_entries (entries_from es 0 16) (entries_from ms 0 16) 0 16 ≡ true = rw t at e in
    ext_get_or row.none es ms n (λ j g.
    let k : j < 16 = omega arith in
    let z : 0 + j ≡ j = omega arith in
    let q : get_or (entries_from es 0 16) j row.none ≡ get_or (entries_from ms 0 16) j row.none =
    rw z at (entries_true (entries_from es 0 16) (entries_from ms 0 16) 0 16 v j k) in
    sym (entries_at es j k) ∙ q ∙ entries_at ms j k))
    (λ t.
    let v : false ≡ true = rw t at e in
    clash cc)

pub rows_same : (es : List Source) → same_row (row_of es) (row_of es) ≡ true
unfolding same_row row_of
rows_same es = rw (eq-eqb (length es) (length es) refl, entries_same (entries_from es 0 16) 0 16)

-- ---- a number over 65,535

over_from_lem : (es : List Source) (i k : ℕ) → over_entries es i k ≡ true → (j : ℕ) × (j < i + k) × (65535 < (get_or es j row.none).number)
unfolding over_entries
over_from_lem es i zero e = clash cc
over_from_lem es i (suc k) e =
    by (ltb 65535 (get_or es i row.none).number)
    (λ t. (i, omega arith, ltb-true 65535 (get_or es i row.none).number t))
    (λ t.
    let r = over_from_lem es (i + 1) k (rw t at e) in
    (r.0, omega (arith, r.1), r.2))

under_from : (es : List Source) (i k : ℕ) → over_entries es i k ≡ false → (j : ℕ) → j < k → (get_or es (i + j) row.none).number ≤ 65535
unfolding over_entries
under_from es i zero e j h = absurd (omega arith)
under_from es i (suc k) e j h =
    by (ltb 65535 (get_or es i row.none).number)
    (λ t.
    let v : true ≡ false = rw t at e in
    clash cc)
    (λ t. here j h (under_from es (i + 1) k (rw t at e)) (ltb-false 65535 (get_or es i row.none).number t))
  where
    here : (j : ℕ) → j < suc k → ((j : ℕ) → j < k → (get_or es (i + 1 + j) row.none).number ≤ 65535) → (get_or es i row.none).number ≤ 65535
        → (get_or es (i + j) row.none).number ≤ 65535
    here zero h f g =
        let q : i + 0 ≡ i = omega arith in
        rw q g
    here (suc j) h f g =
        let q : i + suc j ≡ i + 1 + j = omega arith in
        rw q (f j (omega arith))

-- one of the sources has one
pub record Larger (es : List Source) : Type 0 where
  pub source : Source
  pub member : Member source es
  pub larger : 65535 < source.number

pub over_row : (es : List Source) → over_entries (entries_from es 0 16) 0 16 ≡ true → Larger es
over_row es e =
    let r = over_from_lem (entries_from es 0 16) 0 16 e in
    let h : r.0 < 16 = omega (arith, r.1) in
    let g : 65535 < (get_or es r.0 row.none).number = rw (entries_at es r.0 h) at r.2 in
    by (ltb r.0 (length es))
    (λ t. record { source = get_or es r.0 row.none; member = get_member es r.0 row.none (ltb-true r.0 (length es) t); larger = g })
    (λ t.
    let q = ap (λ (s : Source). s.number) (get_or-eq_default es row.none {n = r.0} (ltb-false r.0 (length es) t)) in
    absurd (omega (arith, q, g)))

-- none has one, where there are at most sixteen
pub under_row : (es : List Source) → length es ≤ 16 → over_entries (entries_from es 0 16) 0 16 ≡ false → (j : ℕ) → j < length es → (get_or es j row.none).number ≤ 65535
under_row es h e j g =
    let z : 0 + j ≡ j = omega arith in
    let k : j < 16 = omega arith in
    let q : (get_or (entries_from es 0 16) j row.none).number ≤ 65535 = rw z at (under_from (entries_from es 0 16) 0 16 e j k) in
    rw (entries_at es j k) at q
