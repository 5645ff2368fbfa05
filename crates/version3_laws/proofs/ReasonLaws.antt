-- A line that may stand in its place is not taken in exactly for one of the reasons of 50. Assumes nothing.
use mathlib.Core.Path.{◌≡◌, sym, ◌∙◌}
use mathlib.Core.Bool.{true, false, ◌&&◌}
use mathlib.Core.List.{List}
use mathlib.Core.Logic.{inl, inr}
use Prim.Native.Nat.{ℕ, ◌≤◌}
use native.Mathlib.Omega.{arith}
use lib.Dec.{eqb}
use borrow.Author.Tests.{eqb-true}
use Rattle.octets.specs.Ascii.{octets}
use Rattle.octets.specs.Cases.{same}
use Rattle.octets.proofs.Bools.{by, and_both}
use Rattle.line_parser.specs.Grammar.{Line}
use Rattle.line_laws.specs.Lined.{Unbroken}
use Rattle.property_table.specs.declared.Edition.TheVariants.{First}
use Rattle.property_table.specs.Rows.{framing}
use Rattle.card_line.specs.Parts.{row_of_line}
use Rattle.reader_grammar.specs.Values.{Vcard}
use Rattle.reader_grammar.specs.Cards.{of_row, lines_of}
use Rattle.reader_grammar.specs.Refusals.{Framing, Unladen}
use Rattle.version3_parameters.specs.declared.Way.{Way}
use Rattle.version3_parameters.specs.declared.Way.TheVariants.{Inward}
use Rattle.version3_parameters.specs.Params.{prefs_fit}
use Rattle.version3_judge.specs.declared.Set.{Set}
use Rattle.version3_judge.specs.Judge.{before_begin, fresh_set, common}
use Rattle.version3_laws.specs.Floats.{OldGeo}
use Rattle.version3_laws.specs.Lines.{ValueIn, VersionRead}
use Rattle.version3_laws.specs.Lines as lines
use Rattle.version3_laws.specs.Refusals.{Before, nothing, begun, whole, InPlace, NotTaken}
use Rattle.version3_laws.specs.Refusals as reasons
use Rattle.version3_laws.proofs.ParamLaws.{no_pref_law}
use Rattle.version3_laws.proofs.ValueLaws.{geo_kind, value_in_only}
use Rattle.version3_laws.proofs.LineLaws.{eleven_to, eleven_from, eleven_no, eleven_unframed, Passes, version_row, taken_to}
use Rattle.version3_laws.proofs.JudgeLaws.{framing_to, framing_from, number_from, Tells, at_nothing, at_begun, at_whole, Advances, begins, version, passes, ends, is_good, good_begin, good_version, good_end, good_goes, none_by, some_by, good_to}
use Rattle.version3_laws.proofs.Small.{clash}

-- ---- what a line that advances has

module _ (w : Way) where
  pub advance_end : {ys : List Line} {x : Line} {d : Before} → Advances w (begun ys) x d → row_of_line First x ≡ 2
      → Vcard x.value × (1 ≤ lines_of First 6 ys) × (1 ≤ lines_of First 7 ys) × (1 ≤ lines_of First 34 ys)
  advance_end (version {x = x} h z) e = absurd (omega (arith, version_row w x h))
  advance_end (passes {x = x} h f) e = absurd ((eleven_no (eleven_to (row_of_line First x) h.row)).1 e)
  advance_end (ends h p q r) e = (h.value, p, q, r)

  pub advance_version : {ys : List Line} {x : Line} {d : Before} → Advances w (begun ys) x d → row_of_line First x ≡ 34 → VersionRead w x × (lines_of First 34 ys ≡ 0)
  advance_version (version {x = x} h z) e = (h, z)
  advance_version (passes {x = x} h f) e = absurd ((eleven_no (eleven_to (row_of_line First x) h.row)).2 e)
  advance_version (ends h p q r) e = absurd (omega (arith, h.row))

  pub advance_eleven : {ys : List Line} {x : Line} {d : Before} → Advances w (begun ys) x d → (Framing (row_of_line First x) → ⊥) → Passes w x × (row_of_line First x ≡ 7 → lines_of First 7 ys ≡ 0)
  advance_eleven (version {x = x} h z) n = absurd (n (inr (inl (version_row w x h))))
  advance_eleven (passes {x = x} h f) n = (h, f)
  advance_eleven (ends h p q r) n = absurd (n (inr (inr h.row)))

-- nothing advances a whole card
abbrev pub place_of : Before → ℕ
place_of nothing = 0
place_of (begun ys) = 1
place_of whole = 2

pub advance_place : {w : Way} {b d : Before} {x : Line} → Advances w b x d → place_of b ≤ 1
advance_place (begins h) = omega arith
advance_place (version h z) = omega arith
advance_place (passes h f) = omega arith
advance_place (ends h p q r) = omega arith

pub n_unframed : (row : ℕ) → row ≡ 7 → Framing row → ⊥
n_unframed row e (inl q) = omega arith
n_unframed row e (inr (inl q)) = omega arith
n_unframed row e (inr (inr q)) = omega arith

pub geo_unframed : (row : ℕ) → row ≡ 19 → Framing row → ⊥
geo_unframed row e (inl q) = omega arith
geo_unframed row e (inr (inl q)) = omega arith
geo_unframed row e (inr (inr q)) = omega arith

place_old : {row k : ℕ} {v w : List ℕ} → ValueIn row k v w → row ≡ 19 → (a : List ℕ) × (b : List ℕ) × OldGeo a b v
place_old (lines.ValueIn.place {a = a} {b = b} o m) e = (a, b, o)
place_old (lines.ValueIn.said n s) e = absurd (n e)

-- ---- the reasons

module _ (x : Line) (u : Unbroken x.value) where
  stops : {b : Before} → NotTaken b x → {d : Before} → Advances Inward b x d → ⊥
  stops reasons.NotTaken.second_card a = omega (arith, advance_place a)
  stops (reasons.NotTaken.begin n) (begins h) = n h.value
  stops (reasons.NotTaken.end r n) a = n (advance_end Inward a r).0
  stops (reasons.NotTaken.version r n) a = n (advance_version Inward a r).0.value
  stops (reasons.NotTaken.second_version r m) a = omega (arith, (advance_version Inward a r).1)
  stops (reasons.NotTaken.second_name r m) a = omega (arith, (advance_eleven Inward a (n_unframed (row_of_line First x) r)).1 r)
  stops (reasons.NotTaken.other f n) a = n (eleven_to (row_of_line First x) (advance_eleven Inward a f).0.row)
  stops (reasons.NotTaken.pref e n) a = n ((no_pref_law x.params).0 (advance_eleven Inward a (eleven_unframed e)).0.prefs)
  stops (reasons.NotTaken.geo r n) a =
      let t = taken_to x u (advance_eleven Inward a (geo_unframed (row_of_line First x) r)).0 in
      let o = place_old t.value r in
      n o.0 o.1 o.2
  stops (reasons.NotTaken.value e n) a =
      let t = taken_to x u (advance_eleven Inward a (eleven_unframed e)).0 in
      n _ t.value t.fits
  stops (reasons.NotTaken.no_fn r z) a = omega (arith, (advance_end Inward a r).1)
  stops (reasons.NotTaken.no_n r z) a = omega (arith, (advance_end Inward a r).2)
  stops (reasons.NotTaken.no_version r z) a = omega (arith, (advance_end Inward a r).3)

  module _ (c : Set) {b : Before} (t : Tells c b) (p : InPlace b x) (l : Unladen First x) where
    pub not_taken_from : NotTaken b x → is_good Inward c x ≡ false
    not_taken_from h = by (is_good Inward c x) (λ g. absurd (stops h (good_to Inward c x l t p g).1)) (λ g. g)

  pub not_taken_to : (c : Set) {b : Before} → Tells c b → InPlace b x → is_good Inward c x ≡ false → NotTaken b x
  not_taken_to c (at_nothing e) p g =
      reasons.NotTaken.begin {x = x} (λ h. clash (rw (h, phase c e)) (sym (good_begin Inward c x p) ∙ g))
    where
      phase : (c : Set) → c ≡ fresh_set → before_begin c.phase ≡ true
      phase c e = rw e
  not_taken_to c (at_whole e) p g = reasons.NotTaken.second_card
  not_taken_to c (at_begun {ys = ys} e hf hn hv) p g =
      by (framing (row_of_line First x)) (λ f. framed (framing_from (row_of_line First x) f)) (λ f. inside f)
    where
      framed : Framing (row_of_line First x) → NotTaken (begun ys) x
      framed (inl q) = absurd (p q)
      framed (inr (inl q)) =
          by c.has_version
          (λ h. reasons.NotTaken.second_version q (some_by (of_row First 34) ys hv h))
          (λ h. reasons.NotTaken.version q (λ v. clash (number_from Inward x.value v) (rw h at (sym (good_version Inward c x q) ∙ g))))
      framed (inr (inr q)) =
          by (same x.value (octets "VCARD"))
          (λ h.
          let r = rw h at (sym (good_end Inward c x q) ∙ g) in
          by c.has_fn
          (λ i. by c.has_n
          (λ j. reasons.NotTaken.no_version q (none_by (of_row First 34) ys hv (rw (i, j) at r)))
          (λ j. reasons.NotTaken.no_n q (none_by (of_row First 7) ys hn j)))
          (λ i. reasons.NotTaken.no_fn q (none_by (of_row First 6) ys hf i)))
          (λ h. reasons.NotTaken.end q (λ v. clash v h))

      inside : framing (row_of_line First x) ≡ false → NotTaken (begun ys) x
      inside f =
          let r = sym (good_goes Inward c x f) ∙ g in
          let n : Framing (row_of_line First x) → ⊥ = λ h. clash (framing_to (row_of_line First x) h) f in
          by (common (row_of_line First x))
          (λ a.
          let e = eleven_to (row_of_line First x) a in
          by (eqb (row_of_line First x) 7 && c.has_n)
          (λ b. let s = and_both (eqb (row_of_line First x) 7) c.has_n b in reasons.NotTaken.second_name (eqb-true (row_of_line First x) 7 s.0) (some_by (of_row First 7) ys hn s.1))
          (λ b. by (prefs_fit Inward x.params)
          (λ d. reasons.NotTaken.value e (λ v h k. clash (value_in_only (geo_kind x) u h k).1 (rw (a, b, d) at r)))
          (λ d. reasons.NotTaken.pref e (λ h. clash ((no_pref_law x.params).1 h) d))))
          (λ a. reasons.NotTaken.other n (λ e. clash (eleven_from e) a))
