-- A value goes over exactly where the relations say so, and as what they say. Assumes nothing.
use mathlib.Core.Path.{◌≡◌, refl, sym, ap, subst, ◌∙◌}
use mathlib.Core.Bool.{Bool, true, false, not, ◌&&◌, false≢true}
use mathlib.Core.List.{List, [], ◌∷◌, ◌++◌, append-nil}
use mathlib.Core.Logic.{◌⊎◌, inl, inr, ◌↔◌}
use mathlib.Core.Option.{Option, none, some}
use Prim.Native.Nat.{ℕ, ◌+◌, ◌-◌, ◌<◌, ◌≤◌}
use native.Mathlib.Omega.{arith}
use lib.Dec.{eqb, ltb, leb}
use lib.ListN.{length, replicate}
use borrow.Author.Tests.{eqb-true, eqb-false, eq-eqb, ne_eqb, lt-ltb, ltb-true, le-leb, leb-true}
use Rattle.octets.specs.Ascii.{octets}
use Rattle.octets.specs.Pick.{pick}
use Rattle.octets.specs.Classes.{digit}
use Rattle.octets.specs.Cases.{same}
use Rattle.octets.specs.Counts.{all_in}
use Rattle.octets.proofs.Bools.{by, and_both}
use Rattle.property_table.specs.declared.Edition.TheVariants.{First}
use Rattle.property_table.specs.Rows.{rows, newer, all_rows, row_at, kind_at, framing, takes_value, rule_at, kind_named, value_kind, line_kind, value_name, calscale_name}
use Rattle.line_parser.specs.Grammar.{Line, Each}
use Rattle.line_laws.specs.Lined.{Unbroken}
use Rattle.value_kinds.specs.Octets.{graphic, holds}
use Rattle.value_kinds.specs.Octets as classes
use Rattle.value_kinds.specs.Kinds.{kind_in}
use Rattle.value_kinds.specs.declared.Fault.{Fault}
use Rattle.value_kinds.specs.declared.Fault.TheVariants.{Fits, Breaks}
use Rattle.value_laws.specs.Words.{In, All, Text, Texts, Semicolons, Components, Uri, Escaped, bare, bare_comma, bare_semicolon, escape}
use Rattle.value_laws.proofs.Plain.{kind_1, kind_2, kind_4, kind_5, kind_6}
use Rattle.card_line.specs.Parts.{row_of_line, kind_of_line, param_value}
use Rattle.reader_grammar.specs.Values.{OfKind, anything, text as of_text, texts as of_texts, uri as of-uri, name as of-name, address as of-address, components as of_components}
use Rattle.reader_grammar.proofs.ValueLaws.{of_kind_lem}
use Rattle.version3_text.specs.Renewed.{renewed, semicolons}
use Rattle.version3_geo.specs.Floats.{old_geo, new_geo, made_new, made_old}
use Rattle.version3_parameters.specs.declared.Way.{Way}
use Rattle.version3_parameters.specs.declared.Way.TheVariants.{Inward, Outward}
use Rattle.version3_line.specs.Lines.{needed, parted, anew_by, lacking, filled_by}
use Rattle.version3_judge.specs.Judge.{is_fit, of_kind, short, fills, goes_over}
use Rattle.version3_laws.specs.Says.{worded, Says, text, name, address, organization, other}
use Rattle.version3_laws.specs.Floats.{OldGeo, NewGeo}
use Rattle.version3_laws.specs.Floats as places
use Rattle.version3_laws.specs.Lines.{ValueIn, ValueOut}
use Rattle.version3_laws.specs.Lines as lines
use Rattle.version3_laws.proofs.TextLaws.{backslash_is, semicolons_count, escaped_append, renewed_escaped, semicolons_escaped}
use Rattle.version3_laws.proofs.SaysLaws.{stands_text, components_text, units_text, text_components, text_units, text_stands, unworded, no_name, no_address, anew_law, filled_law}
use Rattle.version3_laws.proofs.PlaceLaws.{InFloat, a_digit, a_dot, a_plus, a_minus, float_octets, old_to, old_from, made_new_lem, new_only, new_to, new_from, made_old_lem, old_only}
use Rattle.version3_laws.proofs.Small.{clash}

-- ---- kinds

pub kind_law : (k : ℕ) (v : List ℕ) → (of_kind k v ≡ true) ↔ OfKind First k v
unfolding of_kind
kind_law k v = (λ e. (of_kind_lem First k v).0 (go (kind_in First k v) e), λ h. ap is_fit ((of_kind_lem First k v).1 h))
  where
    go : (f : Fault) → is_fit f ≡ true → f ≡ Fits
    go Fits e = refl
    go (Breaks o) e = absurd (false≢true e)

is_text : {v : List ℕ} → OfKind First 1 v → Text v
is_text {v} h = (kind_1 First v).0 ((of_kind_lem First 1 v).1 h)

is_texts : {v : List ℕ} → OfKind First 2 v → Texts v
is_texts {v} h = (kind_2 First v).0 ((of_kind_lem First 2 v).1 h)

is_name : {v : List ℕ} → OfKind First 4 v → Components 5 5 v
is_name {v} h = (kind_4 First v).0 ((of_kind_lem First 4 v).1 h)

is_address : {v : List ℕ} → OfKind First 5 v → Components 7 7 v
is_address {v} h = (kind_5 First v).0 ((of_kind_lem First 5 v).1 h)

is_components : {v : List ℕ} → OfKind First 6 v → Text v
is_components {v} h = (kind_6 First v).0 ((of_kind_lem First 6 v).1 h)

-- ---- filled up

-- text with up to m bare semicolons, with those that it lacks
filled_to : (m : ℕ) {c s : ℕ} {v : List ℕ} → Escaped c s v → s ≤ m → Semicolons m (renewed false v ++ replicate (m - length (semicolons v)) 59)
filled_to m {c} {s} {v} e h =
    let q = semicolons_count e in
    let r = escaped_append (renewed_escaped false e) (semicolons_escaped (m - length (semicolons v))) in
    let n : s + (m - length (semicolons v)) ≡ m = omega arith in
    (c + 0, subst (λ (j : ℕ). Escaped (c + 0) j (renewed false v ++ replicate (m - length (semicolons v)) 59)) n r)

-- and only text with up to m of them comes to m so
filled_from : (m n : ℕ) {c s : ℕ} {v : List ℕ} → Escaped c s v → Semicolons n (renewed false v ++ replicate (m - length (semicolons v)) 59) → n ≤ m → s ≤ m
filled_from m n {c} {s} {v} e h le =
    let q = semicolons_count e in
    let r = escaped_append (renewed_escaped false e) (semicolons_escaped (m - length (semicolons v))) in
    omega (arith, semicolons_count h.1, semicolons_count r)

filled_name : (v : List ℕ) → filled_by 4 v ≡ renewed false v ++ replicate (4 - length (semicolons v)) 59
unfolding filled_by anew_by parted lacking needed
filled_name v = refl

filled_address : (v : List ℕ) → filled_by 5 v ≡ renewed false v ++ replicate (6 - length (semicolons v)) 59
unfolding filled_by anew_by parted lacking needed
filled_address v = refl

no_more : (v : List ℕ) (n : ℕ) → v ++ replicate (0 - n) 59 ≡ v
no_more v n = let z : 0 - n ≡ 0 = omega arith in rw z (append-nil v)

-- any other kind lacks nothing
pub filled_other : (k : ℕ) (v : List ℕ) → eqb k 4 ≡ false → eqb k 5 ≡ false → filled_by k v ≡ anew_by k v
unfolding filled_by lacking needed
filled_other k v p q = rw (p, q) (no_more (anew_by k v) (length (semicolons v)))

anew_text : (v : List ℕ) → anew_by 1 v ≡ renewed true v
unfolding anew_by
anew_text v = refl

anew_organization : (v : List ℕ) → anew_by 6 v ≡ renewed false v
unfolding anew_by parted
anew_organization v = refl

renewed_text : (w : Bool) {v : List ℕ} → Text v → Text (renewed w v)
renewed_text w t = (pick w 0 t.0, renewed_escaped w t.1)

short_to : (n : ℕ) (v : List ℕ) → short n v ≡ true → (c : ℕ) × (s : ℕ) × Escaped c s v × (s < n)
unfolding short
short_to n v e =
    let a = and_both (of_kind 2 v) (ltb (length (semicolons v)) n) e in
    let t = is_texts ((kind_law 2 v).0 a.0) in
    (t.0, t.1, t.2, omega (arith, semicolons_count t.2, ltb-true (length (semicolons v)) n a.1))

short_from : (n : ℕ) {c s : ℕ} {v : List ℕ} → Escaped c s v → s < n → short n v ≡ true
unfolding short
short_from n {c} {s} {v} e h =
    rw ((kind_law 2 v).1 (of_texts (c, s, e)), lt-ltb (length (semicolons v)) n (omega (arith, semicolons_count e)))

-- what a value of a kind other than N's and ADR's says, where it is of its kind
other_says : (k : ℕ) (v : List ℕ) → (k ≡ 4 → ⊥) → (k ≡ 5 → ⊥) → OfKind First k v → (cs : List (List (List ℕ))) × Says k v cs × OfKind First k (anew_by k v)
other_says k v n m h =
    by (worded k)
    (λ w. by (eqb k 1)
    (λ p.
    let q = eqb-true k 1 p in
    let t = is_text (subst (λ (j : ℕ). OfKind First j v) q h) in
    let s = text_stands t in
    subst (λ (j : ℕ). (cs : List (List (List ℕ))) × Says j v cs × OfKind First j (anew_by j v)) (sym q)
    ((s.0 ∷ []) ∷ [], text s.1, subst (OfKind First 1) (sym (anew_text v)) (of_text (renewed_text true t))))
    (λ p. by (eqb k 6)
    (λ r.
    let q = eqb-true k 6 r in
    let t = is_components (subst (λ (j : ℕ). OfKind First j v) q h) in
    let s = text_units t in
    subst (λ (j : ℕ). (cs : List (List (List ℕ))) × Says j v cs × OfKind First j (anew_by j v)) (sym q)
    (s.0, organization s.1, subst (OfKind First 6) (sym (anew_organization v)) (of_components (renewed_text false t))))
    (λ r. clash w (none_of p (ne_eqb k 4 n) (ne_eqb k 5 m) r))))
    (λ w. ((v ∷ []) ∷ [], other w, subst (OfKind First k) (sym (unworded k w v)) h))
  where
    none_of : eqb k 1 ≡ false → eqb k 4 ≡ false → eqb k 5 ≡ false → eqb k 6 ≡ false → worded k ≡ false
    none_of a b c d = unfold worded in rw (a, b, c, d)

-- every value of its kind says something
pub kind_says : (k : ℕ) (v : List ℕ) → OfKind First k v → (cs : List (List (List ℕ))) × Says k v cs
kind_says k v h =
    by (eqb k 4)
    (λ p.
    let q = eqb-true k 4 p in
    let c = is_name (subst (λ (j : ℕ). OfKind First j v) q h) in
    let s = text_components c.3.1 in
    subst (λ (j : ℕ). (cs : List (List (List ℕ))) × Says j v cs) (sym q) (s.0, name s.1))
    (λ p. by (eqb k 5)
    (λ r.
    let q = eqb-true k 5 r in
    let c = is_address (subst (λ (j : ℕ). OfKind First j v) q h) in
    let s = text_components c.3.1 in
    subst (λ (j : ℕ). (cs : List (List (List ℕ))) × Says j v cs) (sym q) (s.0, address s.1))
    (λ r. let s = other_says k v (eqb-false k 4 p) (eqb-false k 5 r) h in (s.0, s.1)))

fills_by : (k : ℕ) (v : List ℕ) → (k ≡ 4 → ⊥) → (k ≡ 5 → ⊥) → fills k v ≡ of_kind k v
unfolding fills
fills_by k v n m = rw (ne_eqb k 4 n, ne_eqb k 5 m)

fills_name : (v : List ℕ) → fills 4 v ≡ short 5 v
unfolding fills
fills_name v = refl

fills_address : (v : List ℕ) → fills 5 v ≡ short 7 v
unfolding fills
fills_address v = refl

fills_to : (k : ℕ) (v : List ℕ) → fills k v ≡ true → (cs : List (List (List ℕ))) × Says k v cs × OfKind First k (filled_by k v)
fills_to k v f =
    by (eqb k 4)
    (λ p.
    let q = eqb-true k 4 p in
    let e = short_to 5 v (sym (fills_name v) ∙ ap (λ (j : ℕ). fills j v) (sym q) ∙ f) in
    let s = text_components e.2 in
    subst (λ (j : ℕ). (cs : List (List (List ℕ))) × Says j v cs × OfKind First j (filled_by j v)) (sym q)
    (s.0, name s.1, subst (OfKind First 4) (sym (filled_name v)) (of-name (4, omega arith, omega arith, filled_to 4 e.2 (omega (arith, e.3))))))
    (λ p. by (eqb k 5)
    (λ r.
    let q = eqb-true k 5 r in
    let e = short_to 7 v (sym (fills_address v) ∙ ap (λ (j : ℕ). fills j v) (sym q) ∙ f) in
    let s = text_components e.2 in
    subst (λ (j : ℕ). (cs : List (List (List ℕ))) × Says j v cs × OfKind First j (filled_by j v)) (sym q)
    (s.0, address s.1, subst (OfKind First 5) (sym (filled_address v)) (of-address (6, omega arith, omega arith, filled_to 6 e.2 (omega (arith, e.3))))))
    (λ r.
    let n = eqb-false k 4 p in
    let m = eqb-false k 5 r in
    let s = other_says k v n m ((kind_law k v).0 (sym (fills_by k v n m) ∙ f)) in
    (s.0, s.1, subst (OfKind First k) (sym (filled_other k v p r)) s.2)))

fills_from : {k : ℕ} {v : List ℕ} {cs : List (List (List ℕ))} → Says k v cs → OfKind First k (filled_by k v) → fills k v ≡ true
fills_from (text {v = v} h) f = fills_by 1 v (λ q. omega arith) (λ q. omega arith) ∙ (kind_law 1 v).1 (of_text (stands_text h))
fills_from (name {v = v} j) f =
    let e = components_text j in
    let c = is_name f in
    fills_name v ∙ short_from 5 e.2 (omega (arith, filled_from 4 c.0 e.2 (subst (Semicolons c.0) (filled_name v) c.3) (omega (arith, c.2))))
fills_from (address {v = v} j) f =
    let e = components_text j in
    let c = is_address f in
    fills_address v ∙ short_from 7 e.2 (omega (arith, filled_from 6 c.0 e.2 (subst (Semicolons c.0) (filled_address v) c.3) (omega (arith, c.2))))
fills_from (organization {v = v} j) f = fills_by 6 v (λ q. omega arith) (λ q. omega arith) ∙ (kind_law 6 v).1 (of_components (units_text j))
fills_from (other {k = k} {v = v} e) f =
    let a = no_name k e in
    let b = no_address k e in
    fills_by k v (eqb-false k 4 a) (eqb-false k 5 b)
    ∙ (kind_law k v).1 (subst (OfKind First k) (filled_other k v a b ∙ unworded k e v) f)

-- ---- GEO

-- the kinds that a GEO line can have
abbrev pub GeoKind : ℕ → Type 0
GeoKind k = (k ≡ 0) ⊎ ((k ≡ 1) ⊎ (k ≡ 3))

all_append : (p : ℕ → Bool) (u v : List ℕ) → all_in p u ≡ true → all_in p v ≡ true → all_in p (u ++ v) ≡ true
unfolding all_in
all_append p [] v h g = g
all_append p (x ∷ u) v h g = let a = and_both (p x) (all_in p u) h in rw a.0 (all_append p u v a.1 g)

float_graphic : {x : ℕ} → InFloat x → In graphic x
unfolding holds digit
float_graphic (a_digit {x = x} h) =
    let a = and_both (leb 48 x) (leb x 57) h in
    rw (le-leb 0x21 x (omega (arith, leb-true 48 x a.0)), le-leb x 0x7e (omega (arith, leb-true x 57 a.1)))
float_graphic a_dot = refl
float_graphic a_plus = refl
float_graphic a_minus = refl

floats_graphic : (u : List ℕ) → Each InFloat u → All graphic u
unfolding Each all_in
floats_graphic [] h = refl
floats_graphic (x ∷ u) h = rw (float_graphic h.0) (floats_graphic u h.1)

comma_first : (v : List ℕ) → All graphic v → All graphic (44 ∷ v)
unfolding all_in holds
comma_first v h = h

geo_scheme : (v w : List ℕ) → v ≡ octets "geo:" ++ w → All graphic w → Uri v
unfolding octets holds all_in Rattle.octets.specs.Classes.letter
geo_scheme v w e h = (103, 101 ∷ 111 ∷ [], 58, w, e, refl, refl, refl, h)

geo_uri : {a b v : List ℕ} → NewGeo a b v → Uri v
geo_uri {a} {b} (places.schemed (places.floats f g)) =
    geo_scheme (octets "geo:" ++ (a ++ (44 ∷ b))) (a ++ (44 ∷ b)) refl
    (all_append (holds graphic) a (44 ∷ b) (floats_graphic a (float_octets f)) (comma_first b (floats_graphic b (float_octets g))))

float_plain : {x : ℕ} → InFloat x → x ≡ 92 → ⊥
unfolding digit
float_plain (a_digit {x = x} h) e = false≢true (ap (λ (n : ℕ). leb 48 n && leb n 57) (sym e) ∙ h)
float_plain a_dot e = omega arith
float_plain a_plus e = omega arith
float_plain a_minus e = omega arith

comma_no : (In classes.inner 44 → ⊥) × (In classes.semicolon 44 → ⊥) × (In classes.backslash 44 → ⊥)
unfolding holds
comma_no = (λ a. false≢true a, λ a. false≢true a, λ a. false≢true a)

-- the octet that stands first, where it is no backslash
first_off : {c s x : ℕ} {v : List ℕ} → (x ≡ 92 → ⊥) → Escaped c s (x ∷ v) → c ≡ 0 → (s : ℕ) × Escaped 0 s v
first_off n (bare {s = s} {v = w} a e) z = (s, subst (λ (k : ℕ). Escaped k s w) z e)
first_off n (bare_comma a e) z = absurd (omega arith)
first_off n (bare_semicolon {s = s} {v = w} a e) z = (s, subst (λ (k : ℕ). Escaped k s w) z e)
first_off {x = x} n (escape a b e) z = absurd (n (backslash_is x a))

comma_off : {c s : ℕ} {v : List ℕ} → Escaped c s (44 ∷ v) → c ≡ 0 → ⊥
comma_off (bare a e) z = comma_no.0 a
comma_off (bare_comma a e) z = omega arith
comma_off (bare_semicolon a e) z = comma_no.1 a
comma_off (escape a b e) z = comma_no.2 a

-- a comma behind octets that are no backslash is bare
bare_there : (u v : List ℕ) (s : ℕ) → Each (λ x. x ≡ 92 → ⊥) u → Escaped 0 s (u ++ (44 ∷ v)) → ⊥
unfolding Each
bare_there [] v s h e = comma_off e refl
bare_there (x ∷ u) v s h e = let r = first_off h.0 e refl in bare_there u v r.0 h.1 r.1

each_plain : (u : List ℕ) → Each InFloat u → Each (λ x. x ≡ 92 → ⊥) u
unfolding Each
each_plain [] h = tt
each_plain (x ∷ u) h = (float_plain h.0, each_plain u h.1)

scheme_plain : (w : List ℕ) (s : ℕ) → Escaped 0 s (octets "geo:" ++ w) → (r : ℕ) × Escaped 0 r w
unfolding octets
scheme_plain w s e =
    let a = first_off (λ (q : 103 ≡ 92). omega arith) e refl in
    let b = first_off (λ (q : 101 ≡ 92). omega arith) a.1 refl in
    let c = first_off (λ (q : 111 ≡ 92). omega arith) b.1 refl in
    first_off (λ (q : 58 ≡ 92). omega arith) c.1 refl

-- a GEO of version 4 is no text: its comma is bare
geo_no_text : {a b v : List ℕ} → NewGeo a b v → Text v → ⊥
geo_no_text {a} {b} (places.schemed (places.floats f g)) t =
    let r = scheme_plain (a ++ (44 ∷ b)) t.0 t.1 in
    bare_there a b r.0 (each_plain a (float_octets f)) r.1

-- a GEO of version 4 is of each of these kinds but text
geo_fits : (k : ℕ) {a b v : List ℕ} → GeoKind k → (k ≡ 1 → ⊥) → NewGeo a b v → OfKind First k v
geo_fits k {v = v} (inl e) n h = subst (λ (j : ℕ). OfKind First j v) (sym e) anything
geo_fits k (inr (inl e)) n h = absurd (n e)
geo_fits k {v = v} (inr (inr e)) n h = subst (λ (j : ℕ). OfKind First j v) (sym e) (of-uri (geo_uri h))

named_kind : (v : List ℕ) → GeoKind (kind_named v)
unfolding kind_named
named_kind v = go (same v (octets "text")) (same v (octets "uri"))
  where
    go : (a b : Bool) → GeoKind (pick a 1 (pick b 3 0))
    go true b = inr (inl refl)
    go false true = inr (inr refl)
    go false false = inl refl

geo_rule : (value calscale : Option (List ℕ)) → line_kind 19 value calscale ≡ value_kind 3 value
unfolding line_kind rule_at takes_value framing kind_at row_at all_rows rows newer
geo_rule value calscale = refl

value_kind_lem : (value : Option (List ℕ)) → GeoKind (value_kind 3 value)
unfolding value_kind
value_kind_lem none = inr (inr refl)
value_kind_lem (some v) = named_kind v

pub geo_kind : (x : Line) → row_of_line First x ≡ 19 → GeoKind (kind_of_line First x)
unfolding kind_of_line
geo_kind x e =
    let v = param_value value_name x in
    let c = param_value calscale_name x in
    subst GeoKind (sym (ap (λ (n : ℕ). line_kind n v c) e ∙ geo_rule v c)) (value_kind_lem v)

-- ---- values of a row and a kind

-- as they are written
unfoldable pub value_by : Way → ℕ → ℕ → List ℕ → List ℕ
value_by Inward row k v = pick (eqb row 19) (made_new v) (filled_by k v)
value_by Outward row k v = pick (eqb row 19) (made_old v) (anew_by k v)

module _ (row k : ℕ) (v : List ℕ) where
  over_geo : row ≡ 19 → goes_over Inward row k v ≡ (not (eqb k 1) && old_geo v)
  unfolding goes_over
  over_geo e = rw (eq-eqb row 19 e)

  over_other : (row ≡ 19 → ⊥) → goes_over Inward row k v ≡ fills k v
  unfolding goes_over
  over_other n = rw (ne_eqb row 19 n)

  by_geo : row ≡ 19 → value_by Inward row k v ≡ made_new v
  unfolding value_by
  by_geo e = rw (eq-eqb row 19 e)

  by_other : (row ≡ 19 → ⊥) → value_by Inward row k v ≡ filled_by k v
  unfolding value_by
  by_other n = rw (ne_eqb row 19 n)

  not_one : not (eqb k 1) ≡ true → k ≡ 1 → ⊥
  not_one e q = false≢true (ap not (sym (eq-eqb k 1 q)) ∙ e)

  -- a value that goes over is taken in as what is written
  pub value_in : (row ≡ 19 → GeoKind k) → Unbroken v → goes_over Inward row k v ≡ true → ValueIn row k v (value_by Inward row k v) × OfKind First k (value_by Inward row k v)
  value_in g u e =
      by (eqb row 19)
      (λ p.
      let q = eqb-true row 19 p in
      let r = and_both (not (eqb k 1)) (old_geo v) (sym (over_geo q) ∙ e) in
      let o = old_to v r.1 in
      let m = made_new_lem o.2 in
      subst (λ (l : List ℕ). ValueIn row k v l × OfKind First k l) (sym (by_geo q))
      (subst (λ (n : ℕ). ValueIn n k v (made_new v)) (sym q) (lines.ValueIn.place o.2 m), geo_fits k (g q) (not_one r.0) m))
      (λ p.
      let n = eqb-false row 19 p in
      let s = fills_to k v (sym (over_other n) ∙ e) in
      subst (λ (l : List ℕ). ValueIn row k v l × OfKind First k l) (sym (by_other n))
      (subst (ValueIn row k v) (filled_law s.1 u) (lines.ValueIn.said n s.1), s.2))

geo_only : (k : ℕ) {a b v w : List ℕ} → GeoKind k → OldGeo a b v → NewGeo a b w → OfKind First k w → (not (eqb k 1) && old_geo v) ≡ true
geo_only k {w = w} g o m f =
    by (eqb k 1)
    (λ p. absurd (geo_no_text m (is_text (subst (λ (j : ℕ). OfKind First j w) (eqb-true k 1 p) f))))
    (λ p. rw (p, old_from o))

-- and only such a value is
pub value_in_only : {row k : ℕ} {v w : List ℕ} → (row ≡ 19 → GeoKind k) → Unbroken v → ValueIn row k v w → OfKind First k w
    → (w ≡ value_by Inward row k v) × (goes_over Inward row k v ≡ true)
value_in_only g u (lines.ValueIn.place {k = k} {v = v} o m) f =
    (new_only o m ∙ sym (by_geo 19 k v refl), over_geo 19 k v refl ∙ geo_only k (g refl) o m f)
value_in_only {row} g u (lines.ValueIn.said {k = k} {v = v} n s) f =
    let q = filled_law s u in
    (q ∙ sym (by_other row k v n), over_other row k v n ∙ fills_from s (subst (OfKind First k) q f))

module _ (row k : ℕ) (v : List ℕ) where
  pub out_geo : row ≡ 19 → (goes_over Outward row k v ≡ new_geo v) × (value_by Outward row k v ≡ made_old v)
  unfolding goes_over value_by
  out_geo e = (rw (eq-eqb row 19 e), rw (eq-eqb row 19 e))

  pub out_other : (row ≡ 19 → ⊥) → (goes_over Outward row k v ≡ true) × (value_by Outward row k v ≡ anew_by k v)
  unfolding goes_over value_by
  out_other n = (rw (ne_eqb row 19 n), rw (ne_eqb row 19 n))

  -- a value of its kind that goes over is given out as what is written
  pub value_out : OfKind First k v → Unbroken v → goes_over Outward row k v ≡ true → ValueOut row k v (value_by Outward row k v)
  value_out h u e =
      by (eqb row 19)
      (λ p.
      let q = eqb-true row 19 p in
      let o = new_to v (sym (out_geo q).0 ∙ e) in
      subst (ValueOut row k v) (sym (out_geo q).1) (subst (λ (n : ℕ). ValueOut n k v (made_old v)) (sym q) (lines.ValueOut.place o.2 (made_old_lem o.2))))
      (λ p.
      let n = eqb-false row 19 p in
      let s = kind_says k v h in
      subst (ValueOut row k v) (anew_law s.1 u ∙ sym (out_other n).1) (lines.ValueOut.said n s.1))

pub value_out_only : {row k : ℕ} {v w : List ℕ} → Unbroken v → ValueOut row k v w → (w ≡ value_by Outward row k v) × (goes_over Outward row k v ≡ true)
value_out_only u (lines.ValueOut.place {k = k} {v = v} m o) = (old_only m o ∙ sym (out_geo 19 k v refl).1, (out_geo 19 k v refl).0 ∙ new_from m)
value_out_only {row} u (lines.ValueOut.said {k = k} {v = v} n s) = (anew_law s u ∙ sym (out_other row k v n).1, (out_other row k v n).0)
