-- A line goes over exactly where the tests say so, and as the line that is written. Assumes nothing.
use mathlib.Core.Path.{◌≡◌, refl, sym, ap, subst, ◌∙◌}
use mathlib.Core.Bool.{Bool, true, false, ◌||◌, false≢true, true≢false}
use mathlib.Core.List.{List, [], ◌∷◌}
use mathlib.Core.Logic.{◌⊎◌, inl, inr}
use mathlib.Core.Option.{Option}
use Prim.Native.Nat.{ℕ}
use lib.Dec.{eqb}
use borrow.Author.Tests.{eqb-true, ne_eqb}
use Rattle.octets.specs.Classes.{valued}
use Rattle.utf8.specs.Characters.{allowed}
use Rattle.utf8_laws.specs.Texts.{Each as EachOctet}
use Rattle.line_parser.specs.Grammar.{Line, front, render}
use Rattle.property_table.specs.declared.Edition.TheVariants.{First}
use Rattle.property_table.specs.Rows.{rows, newer, all_rows, row_at, kind_at, framing, takes_value, rule_at, line_kind, value_name, calscale_name}
use Rattle.line_laws.specs.Lined.{Unbroken}
use Rattle.card_line.specs.Parts.{row_of_line, kind_of_line, param_value}
use Rattle.reader_grammar.specs.Values.{OfKind}
use Rattle.reader_grammar.specs.Cards.{Readable, Bare}
use Rattle.reader_grammar.specs.Refusals.{Framing}
use Rattle.version3_parameters.specs.declared.Way.{Way}
use Rattle.version3_parameters.specs.declared.Way.TheVariants.{Inward, Outward}
use Rattle.version3_parameters.specs.Params.{changed_all, any_prefers, new_params, prefs_fit}
use Rattle.version3_line.specs.Lines.{anew_by, parted, version_text, new_value, new_line}
use Rattle.version3_judge.specs.Judge.{common, goes_over}
use Rattle.version3_laws.specs.Lines.{Eleven, fn, n, tel, email, adr, note, title, role, org, geo, url, TakenIn, GivenOut, GoesOver, VersionRead, versioned}
use Rattle.version3_laws.proofs.SaysLaws.{unbroken_right}
use Rattle.version3_laws.proofs.ParamLaws.{params_in, params_in_only, no_pref_law, params_out, params_out_only}
use Rattle.version3_laws.proofs.ValueLaws.{filled_other, geo_kind, value_by, value_in, value_in_only, value_out, value_out_only}

-- ---- the eleven

pub eleven_to : (m : ℕ) → common m ≡ true → Eleven m
unfolding common
eleven_to m e = go (eqb m 14) (eqb m 15) (eqb m 6) (eqb m 7) (eqb m 13) (eqb m 27) (eqb m 20) (eqb m 21) (eqb m 23) (eqb m 19) (eqb m 33)
    refl refl refl refl refl refl refl refl refl refl refl e
  where
    is : (k : ℕ) → eqb m k ≡ true → Eleven k → Eleven m
    is k q h = subst Eleven (sym (eqb-true m k q)) h

    go : (a b c d f g h i j k l : Bool) → eqb m 14 ≡ a → eqb m 15 ≡ b → eqb m 6 ≡ c → eqb m 7 ≡ d → eqb m 13 ≡ f → eqb m 27 ≡ g → eqb m 20 ≡ h → eqb m 21 ≡ i
        → eqb m 23 ≡ j → eqb m 19 ≡ k → eqb m 33 ≡ l → (a || (b || (c || (d || (f || (g || (h || (i || (j || (k || l)))))))))) ≡ true → Eleven m
    go true b c d f g h i j k l pa pb pc pd pf pg ph pi pj pk pl e = is 14 pa tel
    go false true c d f g h i j k l pa pb pc pd pf pg ph pi pj pk pl e = is 15 pb email
    go false false true d f g h i j k l pa pb pc pd pf pg ph pi pj pk pl e = is 6 pc fn
    go false false false true f g h i j k l pa pb pc pd pf pg ph pi pj pk pl e = is 7 pd n
    go false false false false true g h i j k l pa pb pc pd pf pg ph pi pj pk pl e = is 13 pf adr
    go false false false false false true h i j k l pa pb pc pd pf pg ph pi pj pk pl e = is 27 pg note
    go false false false false false false true i j k l pa pb pc pd pf pg ph pi pj pk pl e = is 20 ph title
    go false false false false false false false true j k l pa pb pc pd pf pg ph pi pj pk pl e = is 21 pi role
    go false false false false false false false false true k l pa pb pc pd pf pg ph pi pj pk pl e = is 23 pj org
    go false false false false false false false false false true l pa pb pc pd pf pg ph pi pj pk pl e = is 19 pk geo
    go false false false false false false false false false false true pa pb pc pd pf pg ph pi pj pk pl e = is 33 pl url
    go false false false false false false false false false false false pa pb pc pd pf pg ph pi pj pk pl e = absurd (false≢true e)

pub eleven_from : {m : ℕ} → Eleven m → common m ≡ true
unfolding common
eleven_from fn = refl
eleven_from n = refl
eleven_from tel = refl
eleven_from email = refl
eleven_from adr = refl
eleven_from note = refl
eleven_from title = refl
eleven_from role = refl
eleven_from org = refl
eleven_from geo = refl
eleven_from url = refl

-- none of them frames a card
pub eleven_inside : {m : ℕ} → Eleven m → framing m ≡ false
unfolding framing
eleven_inside fn = refl
eleven_inside n = refl
eleven_inside tel = refl
eleven_inside email = refl
eleven_inside adr = refl
eleven_inside note = refl
eleven_inside title = refl
eleven_inside role = refl
eleven_inside org = refl
eleven_inside geo = refl
eleven_inside url = refl

framing_frames : (framing 1 ≡ true) × (framing 2 ≡ true) × (framing 34 ≡ true)
unfolding framing
framing_frames = (refl, refl, refl)

pub eleven_no : {m : ℕ} → Eleven m → (m ≡ 1 → ⊥) × (m ≡ 2 → ⊥) × (m ≡ 34 → ⊥)
eleven_no h = (
  λ e. true≢false (sym framing_frames.0 ∙ ap framing (sym e) ∙ eleven_inside h),
  λ e. true≢false (sym framing_frames.1 ∙ ap framing (sym e) ∙ eleven_inside h),
  λ e. true≢false (sym framing_frames.2 ∙ ap framing (sym e) ∙ eleven_inside h),
)

pub eleven_unframed : {m : ℕ} → Eleven m → Framing m → ⊥
eleven_unframed h (inl e) = (eleven_no h).0 e
eleven_unframed h (inr (inl e)) = (eleven_no h).2 e
eleven_unframed h (inr (inr e)) = (eleven_no h).1 e

-- ---- a line of the eleven

-- what the tests say of a line that goes over
pub record Passes (w : Way) (x : Line) : Type 0 where
  pub row : common (row_of_line First x) ≡ true
  pub prefs : prefs_fit w x.params ≡ true
  pub over : goes_over w (row_of_line First x) (kind_of_line First x) x.value ≡ true

clean_inner : (l : List ℕ) → EachOctet (allowed false) l → Unbroken l
unfolding EachOctet Unbroken allowed valued
clean_inner [] h = tt
clean_inner (b ∷ l) h = (
  (λ e. false≢true (subst (λ (x : ℕ). allowed false x ≡ true) e h.0), λ e. false≢true (subst (λ (x : ℕ). allowed false x ≡ true) e h.0)),
  clean_inner l h.1,
)

-- the value of a readable line has no CR and no LF
pub value_unbroken : (x : Line) → Readable x → Unbroken x.value
unfolding render
value_unbroken x r = unbroken_right (front x) x.value (clean_inner (render x) r.clean.octets)

new_value_lem : (w : Way) (row k : ℕ) (v : List ℕ) → (row ≡ 34 → ⊥) → new_value w row k v ≡ value_by w row k v
unfolding new_value value_by
new_value_lem Inward row k v m = rw (ne_eqb row 34 m)
new_value_lem Outward row k v m = rw (ne_eqb row 34 m)

line_parts : (w : Way) (x : Line) → (row_of_line First x ≡ 34 → ⊥)
    → ((new_line w x).group ≡ x.group) × ((new_line w x).name ≡ x.name) × ((new_line w x).params ≡ new_params w x.params)
    × ((new_line w x).value ≡ value_by w (row_of_line First x) (kind_of_line First x) x.value)
unfolding new_line
line_parts w x m = (refl, refl, refl, new_value_lem w (row_of_line First x) (kind_of_line First x) x.value m)

same_line : (x y : Line) → x.group ≡ y.group → x.name ≡ y.name → x.params ≡ y.params → x.value ≡ y.value → x ≡ y
same_line x y g m p v = λ i. record { group = g i; name = m i; params = p i; value = v i }

pub taken_to : (x : Line) → Unbroken x.value → Passes Inward x → TakenIn x (new_line Inward x)
taken_to x u h =
    let e = eleven_to (row_of_line First x) h.row in
    let q = line_parts Inward x (eleven_no e).2 in
    let v = value_in (row_of_line First x) (kind_of_line First x) x.value (geo_kind x) u h.over in
    record {
      row = e;
      no_pref = (no_pref_law x.params).0 h.prefs;
      group = q.0;
      name = q.1;
      params = rw q.2 (params_in x.params);
      value = rw q.3 v.0;
      fits = rw q.3 v.1;
    }

pub taken_from : {x y : Line} → Unbroken x.value → TakenIn x y → Passes Inward x × (y ≡ new_line Inward x)
taken_from {x} {y} u h =
    let q = line_parts Inward x (eleven_no h.row).2 in
    let v = value_in_only (geo_kind x) u h.value h.fits in (
      record { row = eleven_from h.row; prefs = (no_pref_law x.params).1 h.no_pref; over = v.1 },
      same_line y (new_line Inward x) (h.group ∙ sym q.0) (h.name ∙ sym q.1) (params_in_only h.params ∙ sym q.2) (v.0 ∙ sym q.3),
    )

pub given_to : (x : Line) → OfKind First (kind_of_line First x) x.value → Unbroken x.value → Passes Outward x → GivenOut x (new_line Outward x)
given_to x k u h =
    let e = eleven_to (row_of_line First x) h.row in
    let q = line_parts Outward x (eleven_no e).2 in
    record {
      row = e;
      group = q.0;
      name = q.1;
      params = rw q.2 (params_out x.params h.prefs);
      value = rw q.3 (value_out (row_of_line First x) (kind_of_line First x) x.value k u h.over);
    }

pub given_from : {x y : Line} → Unbroken x.value → GivenOut x y → Passes Outward x × (y ≡ new_line Outward x)
given_from {x} {y} u h =
    let q = line_parts Outward x (eleven_no h.row).2 in
    let p = params_out_only h.params in
    let v = value_out_only u h.value in (
      record { row = eleven_from h.row; prefs = p.1; over = v.1 },
      same_line y (new_line Outward x) (h.group ∙ sym q.0) (h.name ∙ sym q.1) (p.0 ∙ sym q.2) (v.0 ∙ sym q.3),
    )

-- in the one way or the other
abbrev pub Kinded : Way → Line → Type 0
Kinded Inward x = Unit {0}
Kinded Outward x = (Framing (row_of_line First x) → ⊥) → OfKind First (kind_of_line First x) x.value

pub goes_to : (w : Way) (x : Line) → Kinded w x → Unbroken x.value → Passes w x → GoesOver w x (new_line w x)
goes_to Inward x k u h = taken_to x u h
goes_to Outward x k u h = given_to x (k (eleven_unframed (eleven_to (row_of_line First x) h.row))) u h

pub goes_from : (w : Way) (x y : Line) → Unbroken x.value → GoesOver w x y → Passes w x × (y ≡ new_line w x)
goes_from Inward x y u h = taken_from u h
goes_from Outward x y u h = given_from u h

pub goes_eleven : (w : Way) (x y : Line) → GoesOver w x y → Eleven (row_of_line First x)
goes_eleven Inward x y h = h.row
goes_eleven Outward x y h = h.row

-- ---- the lines that frame a card

no_params : (w : Way) → new_params w [] ≡ []
unfolding new_params changed_all any_prefers
no_params Inward = refl
no_params Outward = refl

new_version : (w : Way) (k : ℕ) (v : List ℕ) → new_value w 34 k v ≡ version_text w
unfolding new_value
new_version w k v = refl

number_written : (w : Way) → version_text w ≡ (versioned w (record { group = []; name = []; params = []; value = [] })).value
number_written Inward = refl
number_written Outward = refl

pub version_row : (w : Way) (x : Line) → VersionRead w x → row_of_line First x ≡ 34
version_row Inward x h = h.row
version_row Outward x h = h.row

pub version_bare : (w : Way) (x : Line) → VersionRead w x → Bare x
version_bare Inward x h = h.bare
version_bare Outward x h = h.bare

-- VERSION gets the other number
pub version_line : (w : Way) (x : Line) → VersionRead w x → new_line w x ≡ versioned w x
unfolding new_line
version_line w x h =
    let r = version_row w x h in
    let b = version_bare w x h in
    same_line (new_line w x) (versioned w x) refl refl
    (ap (new_params w) b.params ∙ no_params w ∙ sym b.params)
    (ap (λ (row : ℕ). new_value w row (kind_of_line First x) x.value) r ∙ new_version w (kind_of_line First x) x.value ∙ number_written w)

begin_kind : (value calscale : Option (List ℕ)) → line_kind 1 value calscale ≡ 0
unfolding line_kind rule_at takes_value framing kind_at row_at all_rows rows newer
begin_kind value calscale = refl

end_kind : (value calscale : Option (List ℕ)) → line_kind 2 value calscale ≡ 0
unfolding line_kind rule_at takes_value framing kind_at row_at all_rows rows newer
end_kind value calscale = refl

bare_kind : (row : ℕ) → (row ≡ 1) ⊎ (row ≡ 2) → (value calscale : Option (List ℕ)) → line_kind row value calscale ≡ 0
bare_kind row (inl e) value calscale = ap (λ (m : ℕ). line_kind m value calscale) e ∙ begin_kind value calscale
bare_kind row (inr e) value calscale = ap (λ (m : ℕ). line_kind m value calscale) e ∙ end_kind value calscale

anew_nothing : (v : List ℕ) → anew_by 0 v ≡ v
unfolding anew_by parted
anew_nothing v = refl

plain_value : (w : Way) (row : ℕ) (v : List ℕ) → eqb row 34 ≡ false → eqb row 19 ≡ false → new_value w row 0 v ≡ v
unfolding new_value
plain_value Inward row v p q = rw (p, q) (filled_other 0 v refl refl ∙ anew_nothing v)
plain_value Outward row v p q = rw (p, q) (anew_nothing v)

as_it_was : (w : Way) (row : ℕ) (v : List ℕ) → (row ≡ 1) ⊎ (row ≡ 2) → new_value w row 0 v ≡ v
as_it_was w row v (inl e) = ap (λ (m : ℕ). new_value w m 0 v) e ∙ plain_value w 1 v refl refl
as_it_was w row v (inr e) = ap (λ (m : ℕ). new_value w m 0 v) e ∙ plain_value w 2 v refl refl

-- BEGIN and END stay
pub frame_line : (w : Way) (x : Line) → (row_of_line First x ≡ 1) ⊎ (row_of_line First x ≡ 2) → Bare x → new_line w x ≡ x
unfolding new_line kind_of_line
frame_line w x r b =
    same_line (new_line w x) x refl refl (ap (new_params w) b.params ∙ no_params w ∙ sym b.params)
    (ap (λ (k : ℕ). new_value w (row_of_line First x) k x.value) (bare_kind (row_of_line First x) r (param_value value_name x) (param_value calscale_name x))
    ∙ as_it_was w (row_of_line First x) x.value r)
