-- Each kind and the fixed values in plain words. Assumes nothing.
use mathlib.Core.Path.{◌≡◌, refl, sym, ap, subst, ◌∙◌}
use mathlib.Core.Bool.{true, false, false≢true}
use mathlib.Core.List.{List, [], ◌∷◌, ◌++◌}
use mathlib.Core.Logic.{◌⊎◌, inl, inr, ◌↔◌}
use Prim.Native.Nat.{ℕ}
use lib.Dec.{eqb}
use borrow.Author.Tests.{eqb-true, ne_eqb}
use Rattle.octets.specs.Cases.{lower, same}
use Rattle.octets.specs.Ascii.{octets}
use Rattle.property_table.specs.declared.Edition.{Edition}
use Rattle.property_table.specs.declared.Edition.TheVariants.{First}
use Rattle.value_kinds.specs.Octets.{Octets, scheme, graphic, digit, colon, semicolon, letter, sex, the_v, the_c, the_a, the_r, the_d, four, point, nought, holds}
use Rattle.value_kinds.specs.Shapes.{Shape, empty, one, ◌then◌, ◌or◌, many, joined, Every, Matches}
use Rattle.value_kinds.specs.Kinds.{text, uri, gender, pidmap, vcard, version, most_of_name, most_of_address, shape_in, kind_in, value_in, line_shape}
use Rattle.octets.specs.Counts.{all_in}
use Rattle.value_kinds.specs.declared.Fault.TheVariants.{Fits}
use Rattle.octets.proofs.Bools.{and_both}
use Rattle.value_kinds.proofs.QuietLaws.{run_many, itself, whole}
use Rattle.value_laws.specs.Words.{In, All, Text, Texts, Components, Uri, Gender, Pidmap}
use Rattle.value_laws.proofs.KindLaws.{fits_kind, fits_line}
use Rattle.value_laws.proofs.Escapes.{is_text, is_texts, is_name, is_address, is_components}

abbrev pub through : {A B C : Type 0} → A ↔ B → B ↔ C → A ↔ C
through f g = (λ a. g.0 (f.0 a), λ c. f.1 (g.1 c))

-- a run of octets of a set
run_all : (p : Octets) (vs : List (List ℕ)) → Every (Matches (one p)) vs → All p (joined vs)
unfolding Matches joined Every all_in
run_all p [] h = refl
run_all p (v ∷ vs) ((x, e, f), h) = rw (f, e) (run_all p vs h)

run : (p : Octets) (v : List ℕ) → Matches (many (one p)) v ↔ All p v
unfolding Matches
run p v = (λ h. subst (All p) (sym h.1) (run_all p h.0 h.2), run_many (one p) (holds p) (itself p) v)

-- an octet of a set before a text
pub head_to : (p : Octets) (a : Shape) (v : List ℕ) → Matches (one p then a) v → (x : ℕ) × (w : List ℕ) × (v ≡ x ∷ w) × In p x × Matches a w
unfolding Matches
head_to p a v (u, w, e, (x, h, f), k) = (x, w, e ∙ ap (λ (l : List ℕ). l ++ w) f, h, k)

pub head_from : (p : Octets) (a : Shape) (x : ℕ) (v w : List ℕ) → v ≡ x ∷ w → In p x → Matches a w → Matches (one p then a) v
unfolding Matches
head_from p a x v w e h k = (x ∷ [], w, e, (x, h, refl), k)

-- a run, an octet that ends it, and a text
tail_to : (p q : Octets) (a : Shape) (v : List ℕ) → Matches (many (one p) then one q then a) v
    → (u : List ℕ) × (m : ℕ) × (w : List ℕ) × (v ≡ u ++ m ∷ w) × All p u × In q m × Matches a w
unfolding Matches
tail_to p q a v (u, w, e, h, k) =
    let x = head_to q a w k in
    (u, x.0, x.1, e ∙ ap (λ (l : List ℕ). u ++ l) x.2, (run p u).0 h, x.3, x.4)

tail_from : (p q : Octets) (a : Shape) (u : List ℕ) (m : ℕ) (w : List ℕ) → All p u → In q m → Matches a w → Matches (many (one p) then one q then a) (u ++ m ∷ w)
unfolding Matches
tail_from p q a u m w h k l = (u, m ∷ w, refl, (run p u).1 h, head_from q a m (m ∷ w) w refl k l)

uri_words : (v : List ℕ) → Matches uri v ↔ Uri v
unfolding uri
uri_words v = (to, from)
  where
    to : Matches uri v → Uri v
    to h =
        let x = head_to letter (many (one scheme) then one colon then many (one graphic)) v h in
        let y = tail_to scheme colon (many (one graphic)) x.1 x.4 in
        (x.0, y.0, y.1, y.2, x.2 ∙ ap (λ (l : List ℕ). x.0 ∷ l) y.3, x.3, y.4, y.5, (run graphic y.2).0 y.6)

    from : Uri v → Matches uri v
    from (x, a, m, b, e, h, k, l, n) =
        head_from letter (many (one scheme) then one colon then many (one graphic)) x v (a ++ m ∷ b) e h
        (tail_from scheme colon (many (one graphic)) a m b k l ((run graphic b).1 n))

pidmap_words : (v : List ℕ) → Matches pidmap v ↔ Pidmap v
unfolding pidmap
pidmap_words v = (to, from)
  where
    to : Matches pidmap v → Pidmap v
    to h =
        let x = head_to digit (many (one digit) then one semicolon then uri) v h in
        let y = tail_to digit semicolon uri x.1 x.4 in
        (x.0, y.0, y.1, y.2, x.2 ∙ ap (λ (l : List ℕ). x.0 ∷ l) y.3, x.3, y.4, y.5, (uri_words y.2).0 y.6)

    from : Pidmap v → Matches pidmap v
    from (x, a, m, b, e, h, k, l, n) =
        head_from digit (many (one digit) then one semicolon then uri) x v (a ++ m ∷ b) e h
        (tail_from digit semicolon uri a m b k l ((uri_words b).1 n))

text_words : (v : List ℕ) → Matches text v ↔ Text v
unfolding shape_in
text_words v = is_text First v

gender_words : (v : List ℕ) → Matches gender v ↔ Gender v
unfolding gender Matches
gender_words v = (to, from)
  where
    sex_to : (u : List ℕ) → Matches (one sex or empty) u → (u ≡ []) ⊎ ((x : ℕ) × (u ≡ x ∷ []) × In sex x)
    sex_to u (inl (x, h, e)) = inr (x, e, h)
    sex_to u (inr e) = inl e

    rest_to : (w : List ℕ) → Matches (one semicolon then text or empty) w
        → (w ≡ []) ⊎ ((m : ℕ) × (t : List ℕ) × (w ≡ m ∷ t) × In semicolon m × Text t)
    rest_to w (inl h) =
        let x = head_to semicolon text w h in
        inr (x.0, x.1, x.2, x.3, (text_words x.1).0 x.4)
    rest_to w (inr e) = inl e

    to : Matches gender v → Gender v
    to (u, w, e, h, k) = (u, w, e, sex_to u h, rest_to w k)

    sex_from : (u : List ℕ) → (u ≡ []) ⊎ ((x : ℕ) × (u ≡ x ∷ []) × In sex x) → Matches (one sex or empty) u
    sex_from u (inl e) = inr e
    sex_from u (inr (x, e, h)) = inl (x, h, e)

    rest_from : (w : List ℕ) → (w ≡ []) ⊎ ((m : ℕ) × (t : List ℕ) × (w ≡ m ∷ t) × In semicolon m × Text t)
        → Matches (one semicolon then text or empty) w
    rest_from w (inl e) = inr e
    rest_from w (inr (m, t, e, h, k)) = inl (head_from semicolon text m w t e h ((text_words t).1 k))

    from : Gender v → Matches gender v
    from (u, w, e, h, k) = (u, w, e, sex_from u h, rest_from w k)

-- a letter in any case, and then the rest of a word
cased : (p : Octets) (a : Shape) (y : ℕ) (ys : List ℕ) → ((x : ℕ) → holds p x ≡ eqb (lower x) (lower y))
    → ((w : List ℕ) → Matches a w ↔ (same w ys ≡ true)) → (v : List ℕ) → Matches (one p then a) v ↔ (same v (y ∷ ys) ≡ true)
unfolding same
cased p a y ys f g v = (to, from v)
  where
    to : Matches (one p then a) v → same v (y ∷ ys) ≡ true
    to h =
        let x = head_to p a v h in
        rw (x.2, sym (f x.0), x.3) ((g x.1).0 x.4)

    from : (v : List ℕ) → same v (y ∷ ys) ≡ true → Matches (one p then a) v
    from [] e = absurd (false≢true e)
    from (x ∷ w) e =
        let h = and_both (eqb (lower x) (lower y)) (same w ys) e in
        head_from p a x (x ∷ w) w refl (f x ∙ h.0) ((g w).1 h.1)

last_cased : (p : Octets) (y : ℕ) → ((x : ℕ) → holds p x ≡ eqb (lower x) (lower y)) → (v : List ℕ) → Matches (one p) v ↔ (same v (y ∷ []) ≡ true)
unfolding Matches same
last_cased p y f v = (to, from v)
  where
    to : Matches (one p) v → same v (y ∷ []) ≡ true
    to (x, h, e) = rw (e, sym (f x), h)

    from : (v : List ℕ) → same v (y ∷ []) ≡ true → Matches (one p) v
    from [] e = absurd (false≢true e)
    from (x ∷ []) e = (x, f x ∙ (and_both (eqb (lower x) (lower y)) true e).0, refl)
    from (x ∷ z ∷ w) e = absurd (false≢true (and_both (eqb (lower x) (lower y)) false e).1)

vcard_words : (v : List ℕ) → Matches vcard v ↔ (same v (octets "VCARD") ≡ true)
unfolding vcard holds octets
vcard_words v =
    cased the_v (one the_c then one the_a then one the_r then one the_d) 86 (67 ∷ 65 ∷ 82 ∷ 68 ∷ []) (λ x. refl)
    (cased the_c (one the_a then one the_r then one the_d) 67 (65 ∷ 82 ∷ 68 ∷ []) (λ x. refl)
    (cased the_a (one the_r then one the_d) 65 (82 ∷ 68 ∷ []) (λ x. refl)
    (cased the_r (one the_d) 82 (68 ∷ []) (λ x. refl) (last_cased the_d 68 (λ x. refl)))))
    v

version_words : (v : List ℕ) → Matches version v ↔ (v ≡ octets "4.0")
unfolding version holds octets Matches
version_words v = (to, from)
  where
    to : Matches version v → v ≡ 52 ∷ 46 ∷ 48 ∷ []
    to h =
        let x = head_to four (one point then one nought) v h in
        let y = head_to point (one nought) x.1 x.4 in
        let z = y.4 in
        let a = eqb-true x.0 52 x.3 in
        let b = eqb-true y.0 46 y.3 in
        let c = eqb-true z.0 48 z.1 in
        rw (x.2, y.2, z.2, a, b, c)

    from : v ≡ 52 ∷ 46 ∷ 48 ∷ [] → Matches version v
    from e =
        head_from four (one point then one nought) 52 v (46 ∷ 48 ∷ []) e refl
        (head_from point (one nought) 46 (46 ∷ 48 ∷ []) (48 ∷ []) refl refl (48, refl, refl))

module _ (e : Edition) where
  -- kind 0 takes anything
  pub kind_0 : (v : List ℕ) → kind_in e 0 v ≡ Fits
  unfolding shape_in
  kind_0 v = (fits_kind e 0 v).1 (whole v)

  -- kind 1: Every backslash starts an escape, and no comma is bare
  pub kind_1 : (v : List ℕ) → (kind_in e 1 v ≡ Fits) ↔ Text v
  kind_1 v = through (fits_kind e 1 v) (is_text e v)

  -- kind 2: Every backslash starts an escape
  pub kind_2 : (v : List ℕ) → (kind_in e 2 v ≡ Fits) ↔ Texts v
  kind_2 v = through (fits_kind e 2 v) (is_texts e v)

  pub kind_3 : (v : List ℕ) → (kind_in e 3 v ≡ Fits) ↔ Uri v
  unfolding shape_in
  kind_3 v = through (fits_kind e 3 v) (uri_words v)

  -- kinds 4 and 5: Every backslash starts an escape, and as many semicolons are bare as the edition lets N and ADR have
  pub kind_4 : (v : List ℕ) → (kind_in e 4 v ≡ Fits) ↔ Components 5 (most_of_name e) v
  kind_4 v = through (fits_kind e 4 v) (is_name e v)

  pub kind_5 : (v : List ℕ) → (kind_in e 5 v ≡ Fits) ↔ Components 7 (most_of_address e) v
  kind_5 v = through (fits_kind e 5 v) (is_address e v)

  -- kind 6 takes what kind 1 does
  pub kind_6 : (v : List ℕ) → (kind_in e 6 v ≡ Fits) ↔ Text v
  kind_6 v = through (fits_kind e 6 v) (is_components e v)

  pub kind_7 : (v : List ℕ) → (kind_in e 7 v ≡ Fits) ↔ Gender v
  unfolding shape_in
  kind_7 v = through (fits_kind e 7 v) (gender_words v)

  pub kind_8 : (v : List ℕ) → (kind_in e 8 v ≡ Fits) ↔ Pidmap v
  unfolding shape_in
  kind_8 v = through (fits_kind e 8 v) (pidmap_words v)

  -- BEGIN and END: VCARD in any case; VERSION: exactly 4.0
  pub fixed_begin : (k : ℕ) (v : List ℕ) → (value_in e 1 k v ≡ Fits) ↔ (same v (octets "VCARD") ≡ true)
  unfolding line_shape
  fixed_begin k v = through (fits_line e 1 k v) (vcard_words v)

  pub fixed_end : (k : ℕ) (v : List ℕ) → (value_in e 2 k v ≡ Fits) ↔ (same v (octets "VCARD") ≡ true)
  unfolding line_shape
  fixed_end k v = through (fits_line e 2 k v) (vcard_words v)

  pub fixed_version : (k : ℕ) (v : List ℕ) → (value_in e 34 k v ≡ Fits) ↔ (v ≡ octets "4.0")
  unfolding line_shape
  fixed_version k v = through (fits_line e 34 k v) (version_words v)

  -- any other row: the line's kind
  pub by_kind : (row k : ℕ) (v : List ℕ) → (row ≡ 1 → ⊥) → (row ≡ 2 → ⊥) → (row ≡ 34 → ⊥) → value_in e row k v ≡ kind_in e k v
  unfolding value_in kind_in line_shape
  by_kind row k v f g h = rw (ne_eqb row 1 f, ne_eqb row 2 g, ne_eqb row 34 h)
