-- The judgement of a line, test by test. Assumes nothing.
use mathlib.Core.Path.{◌≡◌, refl, sym, ap, ◌∙◌}
use mathlib.Core.Logic.{◌⊎◌, inl, inr}
use mathlib.Core.Bool.{Bool, true, false, not, ◌&&◌}
use mathlib.Core.List.{List}
use Prim.Native.Nat.{ℕ, ◌-◌, ◌<◌, ◌≤◌}
use native.Mathlib.Omega.{arith}
use lib.Dec.{eqb, ltb}
use lib.ListN.{length, take, drop}
use borrow.Author.Tests.{lt-ltb, le-ltb, eq-eqb, ne_eqb}
use Rattle.octets.specs.Ascii.{octets}
use Rattle.octets.specs.Cases.{same}
use Rattle.utf8.specs.Characters.{allowed, first_bad}
use Rattle.line_parser.specs.Parse.{Parse, got, bad}
use Rattle.line_parser.specs.Grammar.{Param, Line}
use Rattle.line_parser.specs.Rule.{parse_line}
use Rattle.property_table.specs.declared.Edition.TheVariants.{First}
use Rattle.property_table.specs.Rows.{framing}
use Rattle.card_line.specs.Parts.{line_parts_by, line_parts_of}
use Rattle.card_line.specs.declared.Parts.{Parts}
use Rattle.card_line.specs.Parts.{fault}
use Rattle.card_line.proofs.PartLaws.{Read}
use Rattle.card_judge.specs.Judge.{laden}
use Rattle.version3_text.specs.Renewed.{semicolons}
use Rattle.version3_text.proofs.PutLaws.{rest_of}
use Rattle.version3_geo.specs.Floats.{old_geo, new_geo}
use Rattle.version3_parameters.specs.declared.Way.{Way}
use Rattle.version3_parameters.specs.declared.Way.TheVariants.{Inward, Outward}
use Rattle.version3_parameters.specs.Params.{prefs_fit}
use Rattle.version3_parameters.specs.Places.{params_by, params_of}
use Rattle.version3_judge.specs.declared.Phase.{Phase}
use Rattle.version3_judge.specs.declared.Phase.TheVariants.{BeforeBegin, Inside, Ended}
use Rattle.version3_judge.specs.declared.Set.{Set}
use Rattle.version3_judge.specs.Judge.{Next, Refused, Flawed}
use Rattle.version3_judge.specs.Judge.{before_begin, number_of, in_place, common, of_kind, short, fills, goes_over, version_read, whole, frames, goes, good, noted, judge_parts, judge_parsed, judge_line}

-- a test of two parts, the first of which fails or holds
pub and_no : (a b : Bool) → a ≡ false → false ≡ (a && b)
and_no a b e = sym (rw e)

pub and_on : (a b : Bool) → a ≡ true → b ≡ (a && b)
and_on a b e = sym (rw e)

pub place_inside : (p : Phase) (row : ℕ) → p ≡ Inside → not (eqb row 1) ≡ in_place p row
unfolding in_place
place_inside p row e = sym (rw e)

pub place_outside : (p : Phase) (row : ℕ) → (p ≡ BeforeBegin) ⊎ (p ≡ Ended) → eqb row 1 ≡ in_place p row
unfolding in_place
place_outside p row (inl e) = sym (rw e)
place_outside p row (inr e) = sym (rw e)

pub not_before : (p : Phase) → (p ≡ BeforeBegin → ⊥) → false ≡ before_begin p
not_before BeforeBegin n = absurd (n refl)
not_before Inside n = refl
not_before Ended n = refl

module _ (k : ℕ) (v : List ℕ) where
  pub short_no : (n : ℕ) → of_kind 2 v ≡ false → false ≡ short n v
  unfolding short
  short_no n e = and_no (of_kind 2 v) (ltb (length (semicolons v)) n) e

  pub short_on : (n m : ℕ) → of_kind 2 v ≡ true → m ≡ length (semicolons v) → ltb m n ≡ short n v
  unfolding short
  short_on n m e f = ap (λ (j : ℕ). ltb j n) f ∙ and_on (of_kind 2 v) (ltb (length (semicolons v)) n) e

  pub fills_name : k ≡ 4 → fills k v ≡ short 5 v
  unfolding fills
  fills_name e = rw (eq-eqb k 4 e)

  pub fills_address : (k ≡ 4 → ⊥) → k ≡ 5 → fills k v ≡ short 7 v
  unfolding fills
  fills_address n e = rw (ne_eqb k 4 n, eq-eqb k 5 e)

  pub fills_other : (k ≡ 4 → ⊥) → (k ≡ 5 → ⊥) → fills k v ≡ of_kind k v
  unfolding fills
  fills_other n m = rw (ne_eqb k 4 n, ne_eqb k 5 m)

  module _ (w : Way) (row : ℕ) where
    pub over_in_geo : w ≡ Inward → row ≡ 19 → goes_over w row k v ≡ (not (eqb k 1) && old_geo v)
    unfolding goes_over
    over_in_geo i e = rw (i, eq-eqb row 19 e)

    pub over_in : w ≡ Inward → (row ≡ 19 → ⊥) → goes_over w row k v ≡ fills k v
    unfolding goes_over
    over_in i n = rw (i, ne_eqb row 19 n)

    pub over_out_geo : w ≡ Outward → row ≡ 19 → goes_over w row k v ≡ new_geo v
    unfolding goes_over
    over_out_geo i e = rw (i, eq-eqb row 19 e)

    pub over_out : w ≡ Outward → (row ≡ 19 → ⊥) → true ≡ goes_over w row k v
    unfolding goes_over
    over_out i n = sym (rw (i, ne_eqb row 19 n))

pub whole_by : (c : Set) → (whole c ≡ (c.has_fn && (c.has_n && c.has_version)))
unfolding whole
whole_by c = refl

module _ (w : Way) (c : Set) (row : ℕ) (v : List ℕ) where
  pub frames_again : row ≡ 34 → c.has_version ≡ true → false ≡ frames w c row v
  unfolding frames
  frames_again e h = sym (rw (eq-eqb row 34 e, h))

  pub frames_version : row ≡ 34 → c.has_version ≡ false → frames w c row v ≡ same v (version_read w)
  unfolding frames
  frames_version e h = rw (eq-eqb row 34 e, h)

  module _ (n : row ≡ 34 → ⊥) where
    pub frames_other : same v (octets "VCARD") ≡ false → false ≡ frames w c row v
    unfolding frames
    frames_other e = sym (rw (ne_eqb row 34 n, e))

    pub frames_begin : same v (octets "VCARD") ≡ true → row ≡ 1 → before_begin c.phase ≡ frames w c row v
    unfolding frames
    frames_begin e b = sym (rw (ne_eqb row 34 n, e, eq-eqb row 1 b))

    pub frames_end : same v (octets "VCARD") ≡ true → (row ≡ 1 → ⊥) → whole c ≡ frames w c row v
    unfolding frames
    frames_end e b = sym (rw (ne_eqb row 34 n, e, ne_eqb row 1 b))

module _ (w : Way) (c : Set) (row k : ℕ) (ps : List Param) (v : List ℕ) where
  pub goes_foreign : common row ≡ false → false ≡ goes w c row k ps v
  unfolding goes
  goes_foreign e = sym (rw e)

  module _ (a : common row ≡ true) where
    pub goes_second : (eqb row 7 && c.has_n) ≡ true → false ≡ goes w c row k ps v
    unfolding goes
    goes_second e = sym (rw (a, e))

    module _ (b : (eqb row 7 && c.has_n) ≡ false) where
      pub goes_preferred : prefs_fit w ps ≡ false → false ≡ goes w c row k ps v
      unfolding goes
      goes_preferred e = sym (rw (a, b, e))

      pub goes_by : prefs_fit w ps ≡ true → goes w c row k ps v ≡ goes_over w row k v
      unfolding goes
      goes_by e = rw (a, b, e)

  pub good_frame : framing row ≡ true → good w c row k ps v ≡ frames w c row v
  unfolding good
  good_frame e = rw e

  pub good_other : framing row ≡ false → good w c row k ps v ≡ goes w c row k ps v
  unfolding good
  good_other e = rw e

  module _ (at group params : ℕ) where
    pub parts_order : in_place c.phase row ≡ false → Refused 9 at ≡ judge_parts w c at row group params k ps v
    unfolding judge_parts
    parts_order e = sym (rw e)

    module _ (o : in_place c.phase row ≡ true) where
      pub parts_laden : laden row group params ≡ true → Refused 8 at ≡ judge_parts w c at row group params k ps v
      unfolding judge_parts
      parts_laden e = sym (rw (o, e))

      module _ (l : laden row group params ≡ false) where
        pub parts_not : good w c row k ps v ≡ false → Refused (number_of w) at ≡ judge_parts w c at row group params k ps v
        unfolding judge_parts
        parts_not e = sym (rw (o, l, e))

        pub parts_next : good w c row k ps v ≡ true → Next (noted c row) ≡ judge_parts w c at row group params k ps v
        unfolding judge_parts
        parts_next e = sym (rw (o, l, e))

module _ (w : Way) (c : Set) (at : ℕ) (l : List ℕ) where
  pub line_flawed : (b : ℕ) → b ≡ first_bad (allowed false) l → b < length l → Flawed 5 b ≡ judge_line w c at l
  unfolding judge_line
  line_flawed b e h = sym (rw (← e, lt-ltb b (length l) h))

  module _ (clean : length l ≤ first_bad (allowed false) l) where
    next : judge_line w c at l ≡ judge_parsed w c at (parse_line l)
    unfolding judge_line
    next = simp (le-ltb (first_bad (allowed false) l) (length l) clean)

    pub line_fault : (e : ℕ) → fault e ≡ line_parts_of First l → Refused e at ≡ judge_line w c at l
    unfolding line_parts_of
    line_fault e h = by (parse_line l) h ∙ sym next
      where
        by : (m : Parse Line) → fault e ≡ line_parts_by First m → Refused e at ≡ judge_parsed w c at m
        by (bad x) h = let z : e ≡ x = cc in ap (λ (n : ℕ). Refused n at) z
        by (got x k) h = let z : ◌≡◌ {A = ℕ} 0 1 = cc in absurd (omega arith)

    pub line_parts : (x : Parts) → Read First l x
        → judge_parts w c at x.row x.group_length x.param_count x.kind (params_of l) (take (length l - x.value_start) (drop x.value_start l)) ≡ judge_line w c at l
    unfolding params_of
    line_parts x r =
        let ps : params_by (parse_line l) ≡ r.parts.params = ap params_by r.parsed in
        rw (rest_of x.value_start l, r.row, r.group, r.params, r.kind, ps, r.value) (sym (next ∙ ap (judge_parsed w c at) r.parsed))
