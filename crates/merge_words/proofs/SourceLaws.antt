-- A CLIENTPIDMAP line's number and URI, and the row of a card by its lines. Assumes nothing.
use mathlib.Core.Path.{◌≡◌, refl, sym, ap, subst, ◌∙◌}
use mathlib.Core.Bool.{Bool, true, false}
use mathlib.Core.List.{List, [], ◌∷◌, ◌++◌, append_assoc}
use mathlib.Core.Logic.{◌⊎◌, inl, inr}
use mathlib.Core.Option.{Option}
use Prim.Native.Nat.{ℕ, suc, ◌+◌, ◌-◌, ◌≤◌}
use native.Mathlib.Omega.{arith}
use lib.Dec.{eqb}
use lib.ListN.{length, take, length-append}
use lib.Seq.{take-append_seam}
use borrow.Author.Tests.{lt-ltb, le-ltb, eqb-true, eqb-false, eq-eqb, ne_eqb}
use Rattle.octets.specs.Pick.{pick}
use Rattle.octets.specs.Slices.{part}
use Rattle.octets.specs.Classes.{run, digit as is_digit}
use Rattle.octets.specs.Counts.{all_in}
use Rattle.octets.proofs.Bools.{by, and_both}
use Rattle.line_parser.specs.Grammar.{Line, Each, Is, front, render}
use Rattle.line_parameters.proofs.Complete.{run_append}
use Rattle.property_table.specs.declared.Edition.TheVariants.{First}
use Rattle.property_table.specs.Rows.{rows, newer, all_rows, row_at, kind_at, framing, takes_value, rule_at, line_kind, value_name, calscale_name}
use Rattle.value_kinds.specs.Octets.{holds, digit, semicolon}
use Rattle.value_laws.specs.Words.{Pidmap}
use Rattle.card_line.specs.Parts.{param_value, row_of_line, kind_of_line}
use Rattle.reader_grammar.specs.Values.{OfKind, anything, text, texts, uri, name, address, components, gender, pidmap, date, timestamp, offset}
use Rattle.reader_grammar.specs.Cards as cards
use Rattle.reader_grammar.specs.Cards.{Begins, Versions, Ends, Inside, Body, CardLines, card, Cards, count, lines_of}
use Rattle.merge_sources.specs.declared.Source.{Source}
use Rattle.merge_pids.specs.Numbers.{digits}
use Rattle.merge_sides.specs.Sources.{narrowed, source_in}
use Rattle.merge_partners.specs.Keys.{uri_of}
use Rattle.merge_words.specs.Lists.{Member, here, there}
use Rattle.merge_words.specs.Pids.{decimal}
use Rattle.merge_words.specs.Sources.{Maps, RowOf}
use Rattle.merge_words.specs.Sources as sources
use Rattle.merge_words.specs.Sides.{capped, Held}
use Rattle.merge_words.specs.Sides as sides
use Rattle.merge_words.specs.ByLines.{lines_sources}
use Rattle.merge_words.specs.Stands.{Stands, AllStand, none, more}
use Rattle.merge_words.proofs.Members.{member_none, member_cases, member_append, member_right}
use Rattle.merge_words.proofs.NumberLaws.{capped_low, digits_law}
use Rattle.merge_words.proofs.StandLaws.{tail_at}
use Rattle.merge_words.proofs.RowLaws.{SourceOf, same_source}

-- ---- the value of a CLIENTPIDMAP line

map_kind : (v c : Option (List ℕ)) → line_kind 32 v c ≡ 8
unfolding line_kind rule_at takes_value framing kind_at row_at rows newer all_rows
map_kind v c = refl

kind_is : (x : Line) → row_of_line First x ≡ 32 → kind_of_line First x ≡ 8
unfolding kind_of_line
kind_is x e = ap (λ (n : ℕ). line_kind n (param_value value_name x) (param_value calscale_name x)) e ∙ map_kind (param_value value_name x) (param_value calscale_name x)

of_pidmap : {k : ℕ} {v : List ℕ} → OfKind First k v → k ≡ 8 → Pidmap v
of_pidmap anything e = absurd (omega arith)
of_pidmap (text h) e = absurd (omega arith)
of_pidmap (texts h) e = absurd (omega arith)
of_pidmap (uri h) e = absurd (omega arith)
of_pidmap (name h) e = absurd (omega arith)
of_pidmap (address h) e = absurd (omega arith)
of_pidmap (components h) e = absurd (omega arith)
of_pidmap (gender h) e = absurd (omega arith)
of_pidmap (pidmap h) e = h
of_pidmap (date h) e = absurd (omega arith)
of_pidmap (timestamp h) e = absurd (omega arith)
of_pidmap (offset h) e = absurd (omega arith)

all_digits : (a : List ℕ) → all_in (holds digit) a ≡ true → Each (Is is_digit) a
unfolding all_in holds Each
all_digits [] e = tt
all_digits (x ∷ a) e =
    let b = and_both (is_digit x) (all_in (holds digit) a) e in
    (b.0, all_digits a b.1)

is_semicolon : (m : ℕ) → holds semicolon m ≡ true → m ≡ 59
unfolding holds
is_semicolon m e = eqb-true m 59 e

is_digit_lem : (x : ℕ) → holds digit x ≡ true → is_digit x ≡ true
unfolding holds
is_digit_lem x e = e

pub record Mapping (x : Line) : Type 0 where
  pub number : ℕ
  pub address : List ℕ
  pub maps : Maps x number address

maps_of : (x : Line) → row_of_line First x ≡ 32 → Pidmap x.value → Mapping x
unfolding Each
maps_of x e p =
    let ds : List ℕ = p.0 ∷ p.1 in
    record {
      number = decimal 0 ds;
      address = p.3;
      maps = record {
        row = e;
        digits = ds;
        value = p.4 ∙ ap (λ (m : ℕ). ds ++ m ∷ p.3) (is_semicolon p.2 p.7);
        number = record { some = omega arith; each = (is_digit_lem p.0 p.5, all_digits p.1 p.6); stands = refl };
      };
    }

-- ---- in a card each has one

each_inside : {x : Line} {xs : List Line} → Member x xs → Each (Inside First) xs → Inside First x
unfolding Each
each_inside here e = e.0
each_inside (there h) e = each_inside h e.1

-- a line that frames a card is none
not_frame : {A : Type 0} {x y : Line} (n : ℕ) → x ≡ y → row_of_line First y ≡ n → row_of_line First x ≡ 32 → (n ≡ 32 → ⊥) → A
not_frame n e f g h = absurd (h (sym f ∙ ap (row_of_line First) (sym e) ∙ g))

module _ {b v z x : Line} {xs : List Line} (begins : Begins First b) (versions : Versions First v) (body : Body First xs) (ends : Ends First z) (e : row_of_line First x ≡ 32) where
  last : (x ≡ z) ⊎ Member x [] → Inside First x
  last (inl q) = not_frame 2 q ends.row e (λ n. omega arith)
  last (inr m) = member_none m refl

  third : Member x xs ⊎ Member x (z ∷ []) → Inside First x
  third (inl m) = each_inside m body.inner.each
  third (inr m) = last (member_cases m)

  second : (x ≡ v) ⊎ Member x (xs ++ z ∷ []) → Inside First x
  second (inl q) = not_frame 34 q versions.row e (λ n. omega arith)
  second (inr m) = third (member_append xs (z ∷ []) m)

  first : (x ≡ b) ⊎ Member x (v ∷ (xs ++ z ∷ [])) → Inside First x
  first (inl q) = not_frame 1 q begins.row e (λ n. omega arith)
  first (inr m) = second (member_cases m)

card_inside : {x : Line} {xs : List Line} → CardLines First xs → Member x xs → row_of_line First x ≡ 32 → Inside First x
card_inside (card begins versions body ends) h e = first begins versions body ends e (member_cases h)

cards_inside : {k : ℕ} {x : Line} {xs : List Line} → Cards First k xs → Member x xs → row_of_line First x ≡ 32 → Inside First x
cards_inside cards.none h e = member_none h refl
cards_inside {x = x} (cards.more {xs = xs} {ys = ys} c cs) h e = go (λ m. cards_inside cs m e) (member_append xs ys h)
  where
    go : (Member x ys → Inside First x) → Member x xs ⊎ Member x ys → Inside First x
    go f (inl m) = card_inside c m e
    go f (inr m) = f m

-- each CLIENTPIDMAP line has its number and URI
abbrev pub AllMap : List Line → Type 0
AllMap xs = (x : Line) → Member x xs → row_of_line First x ≡ 32 → Mapping x

pub cards_map : {k : ℕ} {xs : List Line} → Cards First k xs → AllMap xs
cards_map c x m e = maps_of x e (of_pidmap (cards_inside c m e).value (kind_is x e))

-- ---- what is read of it

digit_semicolon : is_digit 59 ≡ false
unfolding is_digit
digit_semicolon = refl

pub narrow : (n : ℕ) → n ≤ 4294967295 → narrowed n ≡ n
unfolding narrowed
narrow n h = rw (le-ltb 4294967295 n h)

abbrev source : ℕ → ℕ → ℕ → Source
source n p l = record { number = n; place = p; length = l }

pub source_law : (x : Line) (n : ℕ) (u : List ℕ) (w : ℕ) → Maps x n u → w + length (render x) ≤ 4294967295
    → source_in x.value (w + length (front x)) ≡ source (capped n) (w + length (render x) - length u) (length u)
unfolding source_in render
source_law x n u w m h =
    let v = x.value in
    let ds = m.digits in
    let r : run is_digit v ≡ length ds = ap (run is_digit) m.value ∙ run_append is_digit ds (59 ∷ u) m.number.each digit_semicolon in
    let k : length v ≡ length ds + suc (length u) = ap length m.value ∙ length-append ds (59 ∷ u) in
    let l : length (front x ++ v) ≡ length (front x) + length v = length-append (front x) v in
    let t : take (length ds) v ≡ ds = ap (take (length ds)) m.value ∙ take-append_seam ds (59 ∷ u) in
    let number : digits 0 (take (length ds) v) ≡ capped n = ap (digits 0) t ∙ digits_law ds ∙ ap capped (sym m.number.stands) in
    let place : narrowed (w + length (front x) + length ds + 1) ≡ w + length (front x ++ v) - length u =
    narrow (w + length (front x) + length ds + 1) (omega arith) ∙ omega arith in
    let long : narrowed (length v - length ds - 1) ≡ length u = narrow (length v - length ds - 1) (omega arith) ∙ omega arith in
    rw (r, lt-ltb (length ds) (length v) (omega arith), number, place, long)

-- ---- the row

-- no number over 65,535
abbrev pub AllLow : List Line → Type 0
AllLow xs = (x : Line) → Member x xs → (n : ℕ) (u : List ℕ) → Maps x n u → n ≤ 65535

module _ (c rs : List ℕ) (short : length c ≤ 4294967295) where
  -- a row that is the lines' is that of their sources
  pub row_only : {i w : ℕ} {xs : List Line} {m : List Source} → RowOf w xs m → AllStand c rs i w xs → AllLow xs → m ≡ lines_sources w xs
  unfolding lines_sources
  row_only sources.none none low = refl
  row_only {i = i} (sources.passed {w = w} {x = x} {xs = xs} d r) (more s ss) low =
      rw (ne_eqb (row_of_line First x) 32 d) (row_only {i = suc i} r ss (λ y h. low y (there h)))
  row_only {i = i} (sources.entry {w = w} {x = x} {xs = xs} {m = m} {e = e} {uri = u} t p l r) (more s ss) low =
      let q : source_in x.value (w + length (front x)) ≡ e =
      source_law x e.number u w t (omega (arith, s.inside))
      ∙ same_source (source (capped e.number) (w + length (render x) - length u) (length u)) e (capped_low e.number (low x here e.number u t)) (omega (arith, p)) (omega (arith, l)) in
      let ih = row_only {i = suc i} r ss (λ y h. low y (there h)) in
      rw (eq-eqb (row_of_line First x) 32 t.row, q) (ap (λ (es : List Source). e ∷ es) ih)

  -- and theirs is
  pub row_is : {i w : ℕ} {xs : List Line} → AllStand c rs i w xs → AllMap xs → AllLow xs → RowOf w xs (lines_sources w xs)
  unfolding lines_sources
  row_is none maps low = sources.none
  row_is (more {w = w} {x = x} {xs = xs} s ss) maps low =
      let ih = row_is ss (λ y h. maps y (there h)) (λ y h. low y (there h)) in
      by (eqb (row_of_line First x) 32)
      (λ t.
      let g = maps x here (eqb-true (row_of_line First x) 32 t) in
      let n = g.number in
      let u = g.address in
      let q : source_in x.value (w + length (front x)) ≡ source n (w + length (render x) - length u) (length u) =
      source_law x n u w g.maps (omega (arith, s.inside))
      ∙ ap (λ (k : ℕ). source k (w + length (render x) - length u) (length u)) (capped_low n (low x here n u g.maps)) in
      rw (t, q) (sources.entry {e = source n (w + length (render x) - length u) (length u)} g.maps refl refl ih))
      (λ t. rw t (sources.passed (eqb-false (row_of_line First x) 32 t) ih))

  -- the URI of a line that stands at w
  uri_split : (x : Line) (n : ℕ) (u : List ℕ) (t : Maps x n u) → render x ≡ (front x ++ (t.digits ++ 59 ∷ [])) ++ u
  unfolding render
  uri_split x n u t = ap (λ (v : List ℕ). front x ++ v) t.value ∙ simp append_assoc

  uri_at : (i w : ℕ) (x : Line) (e : Source) (u : List ℕ) → Stands c rs i w x → Maps x e.number u → e.place ≡ w + length (render x) - length u → e.length ≡ length u
      → uri_of c e ≡ u
  unfolding uri_of
  uri_at i w x e u s t p l =
      let before : List ℕ = front x ++ (t.digits ++ 59 ∷ []) in
      let q : render x ≡ before ++ u = uri_split x e.number u t in
      let n : length (render x) ≡ length before + length u = ap length q ∙ length-append before u in
      let a : e.place ≡ w + length before = omega (arith, p, n) in
      let b : e.place + e.length ≡ w + length (render x) = omega (arith, l, n, a) in
      ap (part c e.place) b ∙ ap (λ (k : ℕ). part c k (w + length (render x))) a ∙ tail_at c (render x) w s.octets s.inside before u q

  -- the URIs stand in the copy where such a row says
  pub row_held : {i w : ℕ} {xs : List Line} {m : List Source} → RowOf w xs m → AllStand c rs i w xs → Held c xs m
  row_held sources.none none = sides.none
  row_held {i = i} (sources.passed d r) (more s ss) = sides.passed d (row_held {i = suc i} r ss)
  row_held {i = i} (sources.entry {w = w} {x = x} {e = e} {uri = u} t p l r) (more s ss) =
      sides.entry (subst (λ (a : List ℕ). Maps x e.number a) (sym (uri_at i w x e u s t p l)) t) (row_held {i = suc i} r ss)

-- ---- sources and lines

counted : (t : Bool) (e : Source) (n : ℕ) → length (pick t (e ∷ []) []) + n ≡ cards.counts t n
counted true e n = omega arith
counted false e n = omega arith

-- as many as there are CLIENTPIDMAP lines
pub sources_count : (w : ℕ) (xs : List Line) → length (lines_sources w xs) ≡ lines_of First 32 xs
unfolding lines_sources count
sources_count w [] = refl
sources_count w (x ∷ xs) =
    length-append (SourceOf w x) (lines_sources (w + length (render x) + 2) xs)
    ∙ counted (eqb (row_of_line First x) 32) (source_in x.value (w + length (front x))) (length (lines_sources (w + length (render x) + 2) xs))
    ∙ ap (cards.counts (eqb (row_of_line First x) 32)) (sources_count (w + length (render x) + 2) xs)

-- the line of a source, and the source of a line
pub record SourceLine (xs : List Line) (e : Source) : Type 0 where
  pub line : Line
  pub member : Member line xs
  pub number : ℕ
  pub address : List ℕ
  pub maps : Maps line number address
  pub number_is : e.number ≡ capped number

source_later : (x : Line) (xs : List Line) (e : Source) → SourceLine xs e → SourceLine (x ∷ xs) e
source_later x xs e r =
    record { line = r.line; member = there r.member; number = r.number; address = r.address; maps = r.maps; number_is = r.number_is }

pub record LineSource (n : ℕ) (es : List Source) : Type 0 where
  pub source : Source
  pub member : Member source es
  pub number_is : source.number ≡ capped n

module _ (c rs : List ℕ) (short : length c ≤ 4294967295) where
  here_number : (i w : ℕ) (x : Line) (n : ℕ) (u : List ℕ) → Stands c rs i w x → Maps x n u → (source_in x.value (w + length (front x))).number ≡ capped n
  here_number i w x n u s t = ap (λ (e : Source). e.number) (source_law x n u w t (omega (arith, s.inside)))

  pub source_line : {i w : ℕ} {xs : List Line} → AllStand c rs i w xs → AllMap xs → (e : Source) → Member e (lines_sources w xs) → SourceLine xs e
  unfolding lines_sources
  source_line none maps e h = member_none h refl
  source_line (more {i = i} {w = w} {x = x} {xs = xs} s ss) maps e h =
      by (eqb (row_of_line First x) 32)
      (λ t. go (eqb-true (row_of_line First x) 32 t) (source_line ss (λ y m. maps y (there m)) e) (member_cases (rw t at h)))
      (λ t. source_later x xs e (source_line ss (λ y m. maps y (there m)) e (rw t at h)))
    where
      go : row_of_line First x ≡ 32 → (Member e (lines_sources (w + length (render x) + 2) xs) → SourceLine xs e)
          → (e ≡ source_in x.value (w + length (front x))) ⊎ Member e (lines_sources (w + length (render x) + 2) xs) → SourceLine (x ∷ xs) e
      go t f (inl q) =
          let g = maps x here t in
          record {
            line = x;
            member = here;
            number = g.number;
            address = g.address;
            maps = g.maps;
            number_is = ap (λ (y : Source). y.number) q ∙ here_number i w x g.number g.address s g.maps;
          }
      go t f (inr m) = source_later x xs e (f m)

  pub line_source : {i w : ℕ} {x : Line} {xs : List Line} → AllStand c rs i w xs → Member x xs → (n : ℕ) (u : List ℕ) → Maps x n u → LineSource n (lines_sources w xs)
  unfolding lines_sources
  line_source none m n u t = elim m [ ]
  line_source (more {i = i} {w = w} {x = x} {xs = xs} s ss) here n u t =
      rw (eq-eqb (row_of_line First x) 32 t.row)
      (record { source = source_in x.value (w + length (front x)); member = here; number_is = here_number i w x n u s t })
  line_source (more {w = w} {x = x} {xs = xs} s ss) (there h) n u t =
      let r = line_source ss h n u t in
      record { source = r.source; member = member_right (SourceOf w x) r.member; number_is = r.number_is }
