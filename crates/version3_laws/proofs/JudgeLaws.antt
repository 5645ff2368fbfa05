-- The judgement of one line of a card that goes over, in both directions: what stops it, and what stands before the next line where nothing
-- does. Assumes nothing.
use mathlib.Core.Path.{◌≡◌, refl, sym, ap, subst, ◌∙◌}
use mathlib.Core.Bool.{Bool, true, false, not, ◌&&◌, ◌||◌, false≢true}
use mathlib.Core.List.{List, [], ◌∷◌, ◌++◌}
use mathlib.Core.Logic.{inl, inr}
use Prim.Native.Nat.{ℕ, ◌<◌, ◌≤◌}
use native.Mathlib.Omega.{arith}
use lib.Dec.{eqb, ltb}
use lib.ListN.{length}
use borrow.Author.Tests.{eqb-true, eq-eqb, ne_eqb, lt-ltb, ltb-true, ltb-false}
use Rattle.octets.specs.Ascii.{octets}
use Rattle.octets.specs.Pick.{pick}
use Rattle.octets.specs.Cases.{lower, same}
use Rattle.octets.proofs.CaseLaws.{lower_below, lower_above, lower_capital}
use Rattle.octets.proofs.Bools.{by, and_both}
use Rattle.utf8.specs.Characters.{allowed, first_bad}
use Rattle.utf8_laws.specs.Texts.{BadAt}
use Rattle.utf8_laws.proofs.Utf8.{bad_at, bad_at_only}
use Rattle.line_parser.specs.Parse.{Parse, got, bad}
use Rattle.line_parser.specs.Grammar.{Line, Each, front}
use Rattle.line_parser.specs.Rule.{parse_line}
use Rattle.line_parameters.proofs.Law.{line_law}
use Rattle.line_laws.specs.FirstFault.{FirstFault}
use Rattle.line_laws.proofs.FirstLaws.{first_fault_law}
use Rattle.property_table.specs.declared.Edition.TheVariants.{First}
use Rattle.property_table.specs.Rows.{framing}
use Rattle.card_line.specs.Parts.{row_of_line, kind_of_line}
use Rattle.card_judge.specs.Judge.{laden}
use Rattle.reader_grammar.specs.Cards.{Clean, Bare, Begins, Ends, of_row, count, lines_of, any}
use Rattle.reader_grammar.specs.Refusals.{Reads, Framing, Unladen}
use Rattle.reader_grammar.proofs.ValueLaws.{clean_law}
use Rattle.reader_grammar.proofs.Known.{any_some, any_none, some_any, none_any, any_last}
use Rattle.version3_parameters.specs.declared.Way.{Way}
use Rattle.version3_parameters.specs.declared.Way.TheVariants.{Inward, Outward}
use Rattle.version3_parameters.specs.Params.{prefs_fit}
use Rattle.version3_judge.specs.declared.Phase.TheVariants.{Inside, Ended}
use Rattle.version3_judge.specs.declared.Set.{Set}
use Rattle.version3_judge.specs.Judge.{Step, Next, Refused, Flawed, before_begin, fresh_set, number_of, in_place, common, goes_over, version_read, frames, goes, good, noted, judge_parts, judge_parsed, judge_line}
use Rattle.version3_judge.specs.Judge as judging
use Rattle.version3_laws.specs.Lines.{VersionRead}
use Rattle.version3_laws.specs.Refusals.{Before, nothing, begun, whole, InPlace}
use Rattle.version3_laws.proofs.LineLaws.{eleven_to, eleven_inside, eleven_no, eleven_unframed, Passes, version_row, version_bare}
use Rattle.version3_laws.proofs.Small.{clash}

-- ---- small laws

pub framing_to : (row : ℕ) → Framing row → framing row ≡ true
unfolding framing
framing_to row (inl e) = rw e
framing_to row (inr (inl e)) = rw e
framing_to row (inr (inr e)) = rw e

pub framing_from : (row : ℕ) → framing row ≡ true → Framing row
unfolding framing
framing_from row e = go (eqb row 1) (eqb row 34) (eqb row 2) refl refl refl e
  where
    go : (a b c : Bool) → eqb row 1 ≡ a → eqb row 34 ≡ b → eqb row 2 ≡ c → (a || (b || c)) ≡ true → Framing row
    go true b c p q r e = inl (eqb-true row 1 p)
    go false true c p q r e = inr (inl (eqb-true row 34 q))
    go false false true p q r e = inr (inr (eqb-true row 2 r))
    go false false false p q r e = absurd (false≢true e)

empty : {A : Type 0} (xs : List A) → eqb (length xs) 0 ≡ true → xs ≡ []
empty [] e = refl
empty (x ∷ xs) e = absurd (omega (arith, eqb-true (length (x ∷ xs)) 0 e))

module _ (x : Line) where
  abbrev is_laden : Bool
  is_laden = laden (row_of_line First x) (length x.group) (length x.params)

  unladen_to : is_laden ≡ false → Unladen First x
  unfolding laden
  unladen_to e f = go (eqb (length x.group) 0) (eqb (length x.params) 0) refl refl (rw (framing_to (row_of_line First x) f) at e)
    where
      go : (a b : Bool) → eqb (length x.group) 0 ≡ a → eqb (length x.params) 0 ≡ b → (not a || not b) ≡ false → Bare x
      go true true p q e = record { group = empty x.group p; params = empty x.params q }
      go true false p q e = absurd (false≢true (sym e))
      go false b p q e = absurd (false≢true (sym e))

  unladen_from : Unladen First x → is_laden ≡ false
  unfolding laden
  unladen_from f = go (framing (row_of_line First x)) refl
    where
      go : (t : Bool) → framing (row_of_line First x) ≡ t → (t && (not (eqb (length x.group) 0) || not (eqb (length x.params) 0))) ≡ false
      go true e = let b = f (framing_from (row_of_line First x) e) in rw (b.group, b.params)
      go false e = refl

-- an octet that is no letter is known without case
low_same : (x c : ℕ) → c < 65 → lower x ≡ lower c → x ≡ c
low_same x c h e =
    by (ltb x 65)
    (λ p. sym (lower_below x (ltb-true x 65 p)) ∙ e ∙ lower_below c h)
    (λ p. by (ltb 90 x)
    (λ q. sym (lower_above x (ltb-false x 65 p) (ltb-true 90 x q)) ∙ e ∙ lower_below c h)
    (λ q.
    let g = ltb-false x 65 p in
    absurd (omega (arith, sym (lower_capital x g (ltb-false 90 x q)) ∙ e ∙ lower_below c h))))

low_text : (v t : List ℕ) → Each (λ c. c < 65) t → same v t ≡ true → v ≡ t
unfolding same Each
low_text [] [] h e = refl
low_text [] (y ∷ t) h e = absurd (false≢true e)
low_text (x ∷ v) [] h e = absurd (false≢true e)
low_text (x ∷ v) (y ∷ t) h e =
    let a = and_both (eqb (lower x) (lower y)) (same v t) e in
    ap (λ (z : ℕ). z ∷ v) (low_same x y h.0 (eqb-true (lower x) (lower y) a.0)) ∙ ap (λ (l : List ℕ). y ∷ l) (low_text v t h.1 a.1)

-- the VERSION line's value is the number that is read
abbrev pub Number : Way → List ℕ → Type 0
Number w v = v ≡ version_read w

number_to : (w : Way) (v : List ℕ) → same v (version_read w) ≡ true → Number w v
unfolding octets Each
number_to Inward v e = low_text v (octets "3.0") (omega arith, (omega arith, (omega arith, tt))) e
number_to Outward v e = low_text v (octets "4.0") (omega arith, (omega arith, (omega arith, tt))) e

number_same : (w : Way) → same (version_read w) (version_read w) ≡ true
unfolding octets same lower
number_same Inward = refl
number_same Outward = refl

pub number_from : (w : Way) (v : List ℕ) → Number w v → same v (version_read w) ≡ true
number_from w v e = ap (λ (l : List ℕ). same l (version_read w)) e ∙ number_same w

pub version_to : (w : Way) (x : Line) → row_of_line First x ≡ 34 → Bare x → Number w x.value → VersionRead w x
version_to Inward x r b e = record { row = r; bare = b; value = e }
version_to Outward x r b e = record { row = r; bare = b; value = e }

pub version_number : (w : Way) (x : Line) → VersionRead w x → Number w x.value
version_number Inward x h = h.value
version_number Outward x h = h.value

-- ---- what a state knows of the lines before

pub data Tells (c : Set) : Before → Type 0 where
  at_nothing : c ≡ fresh_set → Tells c nothing
  at_begun : {ys : List Line} → c.phase ≡ Inside → c.has_fn ≡ any (of_row First 6) ys → c.has_n ≡ any (of_row First 7) ys → c.has_version ≡ any (of_row First 34) ys → Tells c (begun ys)
  at_whole : c.phase ≡ Ended → Tells c whole

-- the line x takes the card from one place to the next
pub data Advances (w : Way) : Before → Line → Before → Type 0 where
  begins : {x : Line} → Begins First x → Advances w nothing x (begun [])
  version : {ys : List Line} {x : Line} → VersionRead w x → lines_of First 34 ys ≡ 0 → Advances w (begun ys) x (begun (ys ++ (x ∷ [])))
  passes : {ys : List Line} {x : Line} → Passes w x → (row_of_line First x ≡ 7 → lines_of First 7 ys ≡ 0) → Advances w (begun ys) x (begun (ys ++ (x ∷ [])))
  ends : {ys : List Line} {x : Line} → Ends First x → 1 ≤ lines_of First 6 ys → 1 ≤ lines_of First 7 ys → 1 ≤ lines_of First 34 ys → Advances w (begun ys) x whole

abbrev pub is_good : Way → Set → Line → Bool
is_good w c x = good w c (row_of_line First x) (kind_of_line First x) x.params x.value

module _ (w : Way) (c : Set) (x : Line) where
  good_frame : Framing (row_of_line First x) → is_good w c x ≡ frames w c (row_of_line First x) x.value
  unfolding good
  good_frame f = rw (framing_to (row_of_line First x) f)

  good_inside : framing (row_of_line First x) ≡ false → is_good w c x ≡ goes w c (row_of_line First x) (kind_of_line First x) x.params x.value
  unfolding good
  good_inside f = rw f

  pub good_begin : row_of_line First x ≡ 1 → is_good w c x ≡ (same x.value (octets "VCARD") && before_begin c.phase)
  unfolding frames
  good_begin e = good_frame (inl e) ∙ rw e

  pub good_version : row_of_line First x ≡ 34 → is_good w c x ≡ (not c.has_version && same x.value (version_read w))
  unfolding frames
  good_version e = good_frame (inr (inl e)) ∙ rw e

  pub good_end : row_of_line First x ≡ 2 → is_good w c x ≡ (same x.value (octets "VCARD") && (c.has_fn && (c.has_n && c.has_version)))
  unfolding frames judging.whole
  good_end e = good_frame (inr (inr e)) ∙ rw e

  pub good_goes : framing (row_of_line First x) ≡ false
      → is_good w c x ≡ (common (row_of_line First x) && (not (eqb (row_of_line First x) 7 && c.has_n) && (prefs_fit w x.params && goes_over w (row_of_line First x) (kind_of_line First x) x.value)))
  unfolding goes
  good_goes f = good_inside f

phase_fresh : (c : Set) → c ≡ fresh_set → before_begin c.phase ≡ true
phase_fresh c e = rw e

-- a bool that is another's
pub none_by : (p : Line → Bool) (ys : List Line) {b : Bool} → b ≡ any p ys → b ≡ false → count p ys ≡ 0
none_by p ys e f = any_none First p ys (sym e ∙ f)

pub some_by : (p : Line → Bool) (ys : List Line) {b : Bool} → b ≡ any p ys → b ≡ true → 1 ≤ count p ys
some_by p ys e f = any_some First p ys (sym e ∙ f)

not-true : (b : Bool) → not b ≡ true → b ≡ false
not-true true e = absurd (false≢true e)
not-true false e = refl

module _ (w : Way) (c : Set) (x : Line) (u : Unladen First x) where
  pub good_to : {b : Before} → Tells c b → InPlace b x → is_good w c x ≡ true → (d : Before) × Advances w b x d
  good_to (at_nothing e) p g =
      let a = and_both (same x.value (octets "VCARD")) (before_begin c.phase) (sym (good_begin w c x p) ∙ g) in
      (begun [], begins (record { row = p; bare = u (inl p); value = a.0 }))
  good_to (at_whole e) p g =
      let a = and_both (same x.value (octets "VCARD")) (before_begin c.phase) (sym (good_begin w c x p) ∙ g) in
      absurd (false≢true (ap before_begin (sym e) ∙ a.1))
  good_to (at_begun {ys = ys} e hf hn hv) p g =
      by (framing (row_of_line First x)) (λ f. framed (framing_from (row_of_line First x) f)) (λ f. inside f)
    where
      framed : Framing (row_of_line First x) → (d : Before) × Advances w (begun ys) x d
      framed (inl q) = absurd (p q)
      framed (inr (inl q)) =
          let a = and_both (not c.has_version) (same x.value (version_read w)) (sym (good_version w c x q) ∙ g) in
          (begun (ys ++ (x ∷ [])), version (version_to w x q (u (inr (inl q))) (number_to w x.value a.1)) (none_by (of_row First 34) ys hv (not-true c.has_version a.0)))
      framed (inr (inr q)) =
          let a = and_both (same x.value (octets "VCARD")) (c.has_fn && (c.has_n && c.has_version)) (sym (good_end w c x q) ∙ g) in
          let b = and_both c.has_fn (c.has_n && c.has_version) a.1 in
          let d = and_both c.has_n c.has_version b.1 in
          (whole, ends (record { row = q; bare = u (inr (inr q)); value = a.0 }) (some_by (of_row First 6) ys hf b.0) (some_by (of_row First 7) ys hn d.0) (some_by (of_row First 34) ys hv d.1))

      inside : framing (row_of_line First x) ≡ false → (d : Before) × Advances w (begun ys) x d
      inside f =
          let a = and_both (common (row_of_line First x)) (not (eqb (row_of_line First x) 7 && c.has_n) && (prefs_fit w x.params && goes_over w (row_of_line First x) (kind_of_line First x) x.value)) (sym (good_goes w c x f) ∙ g) in
          let b = and_both (not (eqb (row_of_line First x) 7 && c.has_n)) (prefs_fit w x.params && goes_over w (row_of_line First x) (kind_of_line First x) x.value) a.1 in
          let d = and_both (prefs_fit w x.params) (goes_over w (row_of_line First x) (kind_of_line First x) x.value) b.1 in (
            begun (ys ++ (x ∷ [])),
            passes (record { row = a.0; prefs = d.0; over = d.1 })
                (λ q. none_by (of_row First 7) ys hn (not-true c.has_n (rw (eq-eqb (row_of_line First x) 7 q) at b.0))),
          )

-- a line of the eleven, in a state that has had so many N
passes_good : (w : Way) (c : Set) (x : Line) → Passes w x → (row_of_line First x ≡ 7 → c.has_n ≡ false) → is_good w c x ≡ true
passes_good w c x h f =
    let e = eleven_to (row_of_line First x) h.row in
    good_goes w c x (eleven_inside e)
    ∙ rw (h.row, h.prefs, h.over) (by (eqb (row_of_line First x) 7) (λ q. rw (q, f (eqb-true (row_of_line First x) 7 q))) (λ q. rw q))

advance_good : (w : Way) (c : Set) (x : Line) {b d : Before} → Tells c b → Advances w b x d → is_good w c x ≡ true
advance_good w c x (at_whole e) h = elim h [ ]
advance_good w c x (at_nothing e) (begins h) = good_begin w c x h.row ∙ rw (h.value, phase_fresh c e)
advance_good w c x (at_begun {ys = ys} e hf hn hv) (version h z) =
    good_version w c x (version_row w x h) ∙ rw (hv ∙ none_any First (of_row First 34) ys z, number_from w x.value (version_number w x h))
advance_good w c x (at_begun {ys = ys} e hf hn hv) (passes h f) = passes_good w c x h (λ q. hn ∙ none_any First (of_row First 7) ys (f q))
advance_good w c x (at_begun {ys = ys} e hf hn hv) (ends h p q r) =
    good_end w c x h.row ∙ rw (h.value, hf ∙ some_any First (of_row First 6) ys p, hn ∙ some_any First (of_row First 7) ys q, hv ∙ some_any First (of_row First 34) ys r)

-- ---- the state after it

noted_begun : (c : Set) (x : Line) (ys : List Line) → (row_of_line First x ≡ 2 → ⊥) → c.has_fn ≡ any (of_row First 6) ys → c.has_n ≡ any (of_row First 7) ys
    → c.has_version ≡ any (of_row First 34) ys → Tells (noted c (row_of_line First x)) (begun (ys ++ (x ∷ [])))
unfolding noted
noted_begun c x ys m hf hn hv =
    at_begun (rw (ne_eqb (row_of_line First x) 2 m))
    (ap (λ (b : Bool). b || eqb (row_of_line First x) 6) hf ∙ sym (any_last First (of_row First 6) ys x))
    (ap (λ (b : Bool). b || eqb (row_of_line First x) 7) hn ∙ sym (any_last First (of_row First 7) ys x))
    (ap (λ (b : Bool). b || eqb (row_of_line First x) 34) hv ∙ sym (any_last First (of_row First 34) ys x))

noted_first : (c : Set) (x : Line) → c ≡ fresh_set → row_of_line First x ≡ 1 → Tells (noted c (row_of_line First x)) (begun [])
unfolding noted any
noted_first c x e r = at_begun {ys = []} (rw r) (rw (e, r)) (rw (e, r)) (rw (e, r))

noted_end : (c : Set) (x : Line) → row_of_line First x ≡ 2 → Tells (noted c (row_of_line First x)) whole
unfolding noted
noted_end c x r = at_whole (rw r)

pub advance_tells : (w : Way) (c : Set) (x : Line) {b d : Before} → Tells c b → Advances w b x d → Tells (noted c (row_of_line First x)) d
advance_tells w c x (at_whole e) h = elim h [ ]
advance_tells w c x (at_nothing e) (begins h) = noted_first c x e h.row
advance_tells w c x (at_begun {ys = ys} e hf hn hv) (version h z) = noted_begun c x ys (λ q. omega (arith, version_row w x h)) hf hn hv
advance_tells w c x (at_begun {ys = ys} e hf hn hv) (passes h f) = noted_begun c x ys (eleven_no (eleven_to (row_of_line First x) h.row)).1 hf hn hv
advance_tells w c x (at_begun e hf hn hv) (ends h p q r) = noted_end c x h.row

pub advance_place : (w : Way) {x : Line} {b d : Before} → Advances w b x d → InPlace b x × Unladen First x
advance_place w (begins h) = (h.row, λ f. h.bare)
advance_place w (version {x = x} h z) = ((λ q. omega (arith, version_row w x h)), λ f. version_bare w x h)
advance_place w (passes {x = x} h f) =
    let e = eleven_to (row_of_line First x) h.row in
    ((eleven_no e).0, λ g. absurd (eleven_unframed e g))
advance_place w (ends h p q r) = ((λ f. omega (arith, h.row)), λ f. h.bare)

-- ---- the judgement

place_to : {c : Set} {b : Before} (x : Line) → Tells c b → in_place c.phase (row_of_line First x) ≡ true → InPlace b x
unfolding in_place
place_to x (at_nothing e) h = eqb-true (row_of_line First x) 1 (rw e at h)
place_to x (at_whole e) h = eqb-true (row_of_line First x) 1 (rw e at h)
place_to x (at_begun e hf hn hv) h = λ q. false≢true (ap (λ (r : ℕ). not (eqb r 1)) (sym q) ∙ (rw e at h))

place_from : {c : Set} {b : Before} (x : Line) → Tells c b → InPlace b x → in_place c.phase (row_of_line First x) ≡ true
unfolding in_place
place_from x (at_nothing e) h = rw (e, eq-eqb (row_of_line First x) 1 h)
place_from x (at_whole e) h = rw (e, eq-eqb (row_of_line First x) 1 h)
place_from x (at_begun e hf hn hv) h = rw (e, ne_eqb (row_of_line First x) 1 h)

-- what a judged line leads to
pub data Judged (w : Way) (b : Before) (c : Set) (at : ℕ) (l : List ℕ) : Step → Type 0 where
  flawed : {o : ℕ} → BadAt (allowed false) l o → Judged w b c at l (Flawed 5 o)
  ruled : {n : ℕ} → Clean l → FirstFault n l → Judged w b c at l (Refused n at)
  misplaced : (x : Line) → Reads l x → (InPlace b x → ⊥) → Judged w b c at l (Refused 9 at)
  heavy : (x : Line) → Reads l x → InPlace b x → (Unladen First x → ⊥) → Judged w b c at l (Refused 8 at)
  unwanted : (x : Line) → Reads l x → InPlace b x → Unladen First x → is_good w c x ≡ false → Judged w b c at l (Refused (number_of w) at)
  advanced : (x : Line) (d : Before) → Reads l x → Advances w b x d → Judged w b c at l (Next (noted c (row_of_line First x)))

module _ (w : Way) (c : Set) (b : Before) (t : Tells c b) (at : ℕ) (l : List ℕ) where
  abbrev parts : Line → Step
  parts x = judge_parts w c at (row_of_line First x) (length x.group) (length x.params) (kind_of_line First x) x.params x.value

  after_clean : Clean l → judge_line w c at l ≡ judge_parsed w c at (parse_line l)
  unfolding judge_line
  after_clean h = rw ((clean_law First l).1 h)

  after_reads : (x : Line) → Reads l x → judge_line w c at l ≡ parts x
  after_reads x r =
      after_clean (rw r.text r.readable.clean)
      ∙ ap (judge_parsed w c at) ((line_law l x (length (front x))).1 (r.readable.formed, r.text, refl))

  after_order : (x : Line) → Reads l x → InPlace b x → judge_line w c at l ≡ pick (is_laden x) (Refused 8 at) (pick (is_good w c x) (Next (noted c (row_of_line First x))) (Refused (number_of w) at))
  unfolding judge_parts
  after_order x r h = after_reads x r ∙ rw (place_from x t h)

  after_laden : (x : Line) → Reads l x → InPlace b x → Unladen First x → judge_line w c at l ≡ pick (is_good w c x) (Next (noted c (row_of_line First x))) (Refused (number_of w) at)
  after_laden x r h u = after_order x r h ∙ rw (unladen_from x u)

  -- each judgement is the one that is made
  pub outcome : {s : Step} → Judged w b c at l s → judge_line w c at l ≡ s
  unfolding judge_line judge_parts
  outcome (flawed {o = o} h) = rw (bad_at_only (allowed false) l h, lt-ltb o (length l) h.inside)
  outcome (ruled {n = n} h f) = after_clean h ∙ ap (judge_parsed w c at) ((first_fault_law l n).1 f)
  outcome (misplaced x r f) = after_reads x r ∙ rw (by (in_place c.phase (row_of_line First x)) (λ e. absurd (f (place_to x t e))) (λ e. e))
  outcome (heavy x r h f) = after_order x r h ∙ rw (by (is_laden x) (λ e. e) (λ e. absurd (f (unladen_to x e))))
  outcome (unwanted x r h u g) = after_laden x r h u ∙ rw g
  outcome (advanced x d r a) =
      let p = advance_place w a in
      after_laden x r p.0 p.1 ∙ rw (advance_good w c x t a)

  reads_decided : (x : Line) → Reads l x → (s : Step) × Judged w b c at l s
  reads_decided x r =
      by (in_place c.phase (row_of_line First x))
      (λ e.
      let h = place_to x t e in
      by (is_laden x)
      (λ f. (Refused 8 at, heavy x r h (λ u. clash f (unladen_from x u))))
      (λ f.
      let u = unladen_to x f in
      by (is_good w c x)
      (λ g. let a = good_to w c x u t h g in (Next (noted c (row_of_line First x)), advanced x a.0 r a.1))
      (λ g. (Refused (number_of w) at, unwanted x r h u g))))
      (λ e. (Refused 9 at, misplaced x r (λ h. clash (place_from x t h) e)))

  parse_decided : Clean l → (m : Parse Line) → parse_line l ≡ m → (s : Step) × Judged w b c at l s
  parse_decided h (bad e) p = (Refused e at, ruled h ((first_fault_law l e).0 p))
  parse_decided h (got x n) p =
      let q = (line_law l x n).0 p in
      reads_decided x (record { text = q.1; readable = record { clean = subst Clean q.1 h; formed = q.0 } })

  -- every line is judged in one of these ways
  pub decided : (s : Step) × Judged w b c at l s
  decided =
      by (ltb (first_bad (allowed false) l) (length l))
      (λ e. (Flawed 5 (first_bad (allowed false) l), flawed (bad_at (allowed false) l (ltb-true (first_bad (allowed false) l) (length l) e))))
      (λ e. parse_decided ((clean_law First l).0 e) (parse_line l) refl)
