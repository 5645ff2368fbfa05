-- The line that is written may be read: it is by the line rule, and whole characters without controls; and it has the row and the kind of the
-- line that was read. Assumes nothing.
use mathlib.Core.Path.{◌≡◌, refl, sym, ap, subst, ◌∙◌}
use mathlib.Core.Bool.{true, false, or-true, true≢false}
use mathlib.Core.List.{List, [], ◌∷◌, ◌++◌, append-nil, append_assoc}
use mathlib.Core.Option.{Option, some}
use Prim.Native.Nat.{ℕ, ◌<◌, ◌≤◌}
use native.Mathlib.Omega.{arith}
use lib.Dec.{eqb, leb}
use lib.ListN.{length}
use borrow.Author.Tests.{eqb-true, eqb-false, leb-true, le-leb}
use Rattle.octets.specs.Ascii.{octets}
use Rattle.octets.specs.Pick.{pick}
use Rattle.octets.specs.Classes.{letter, digit, hyphen, valued, quoted, bare, named}
use Rattle.octets.specs.Cases.{same}
use Rattle.octets.proofs.Bools.{by, and_both}
use Rattle.octets.proofs.CaseLaws.{same_length}
use Rattle.utf8.specs.Characters.{allowed}
use Rattle.line_parser.specs.Grammar.{Value, Param, Line, Each, Is, Word, GoodValue, GoodParam, led, value_text, param_text, group_text, front, render}
use Rattle.line_parameters.specs.First.{first_named}
use Rattle.line_laws.specs.Lined.{Unbroken}
use Rattle.property_table.specs.declared.Edition.TheVariants.{First}
use Rattle.property_table.specs.Rows.{line_kind, value_name, calscale_name}
use Rattle.card_line.specs.Parts.{octets_of, param_value, row_of_line, kind_of_line}
use Rattle.reader_grammar.specs.Cards.{Readable}
use Rattle.version3_parameters.specs.declared.Way.{Way}
use Rattle.version3_parameters.specs.declared.Way.TheVariants.{Inward, Outward}
use Rattle.version3_parameters.specs.Params.{is_pref, kept, with_values, is_type, is_pref_param, values_of, changed, changed_all, any_prefers, mark, new_params}
use Rattle.version3_line.specs.Lines.{anew_by, parted, lacking, filled_by, new_line}
use Rattle.version3_laws.specs.Says.{Says, text, name, address, organization, other}
use Rattle.version3_laws.specs.Floats.{NewGeo}
use Rattle.version3_laws.specs.Floats as places
use Rattle.version3_laws.specs.Lines.{ValueIn, ValueOut, GoesOver, versioned, number_written}
use Rattle.version3_laws.specs.Lines as lines
use Rattle.version3_laws.proofs.SaysLaws.{stands_text, components_text, units_text, unworded, anew_law, filled_law}
use Rattle.version3_laws.proofs.PlaceLaws.{each_append, InFloat, a_digit, a_dot, a_plus, a_minus, float_octets}
use Rattle.version3_laws.proofs.FairLaws.{Fair, clean_fair, fair_clean, fair_append, Ascii, fair_split, fair_rest, fair_cons, fair_each, fair_repeat, head_part, led_parts, parts_led, fair_renewed}
use Rattle.version3_laws.proofs.LineLaws.{value_unbroken, goes_from}

-- ---- values

pub marks_fine : Ascii 58 × Ascii 59 × Ascii 44 × Ascii 61
unfolding allowed valued
marks_fine = (record { low = omega arith; fine = refl }, record { low = omega arith; fine = refl }, record { low = omega arith; fine = refl }, record { low = omega arith; fine = refl })

says_fair : {k : ℕ} {v : List ℕ} {cs : List (List (List ℕ))} → Says k v cs → Fair v → Fair (anew_by k v)
unfolding anew_by parted
says_fair (text h) f = fair_renewed true (stands_text h).1 f
says_fair (name j) f = fair_renewed false (components_text j).2 f
says_fair (address j) f = fair_renewed false (components_text j).2 f
says_fair (organization j) f = fair_renewed false (units_text j).1 f
says_fair (other {k = k} {v = v} e) f = subst Fair (sym (unworded k e v)) f

digit_fine : (x : ℕ) → 48 ≤ x → x ≤ 57 → allowed false x ≡ true
unfolding allowed valued
digit_fine x lo hi = simp (le-leb 0x20 x (omega arith), le-leb x 0x7e (omega arith), or-true)

float_ascii : {x : ℕ} → InFloat x → Ascii x
unfolding digit allowed valued
float_ascii (a_digit {x = x} h) =
    let a = and_both (leb 48 x) (leb x 57) h in
    let lo = leb-true 48 x a.0 in
    let hi = leb-true x 57 a.1 in
    record { low = omega arith; fine = digit_fine x lo hi }
float_ascii a_dot = record { low = omega arith; fine = refl }
float_ascii a_plus = record { low = omega arith; fine = refl }
float_ascii a_minus = record { low = omega arith; fine = refl }

floats_ascii : (u : List ℕ) → Each InFloat u → Each Ascii u
unfolding Each
floats_ascii [] h = tt
floats_ascii (x ∷ u) h = (float_ascii h.0, floats_ascii u h.1)

floats_fair : (c : ℕ) {a b v : List ℕ} → Ascii c → places.Floats c a b v → Fair v
floats_fair c {a} {b} h (places.floats f g) = fair_append (fair_each a (floats_ascii a (float_octets f))) (fair_cons h (fair_each b (floats_ascii b (float_octets g))))

low : (c : ℕ) → c < 128 → valued c ≡ true → Ascii c
unfolding allowed
low c h v = record { low = h; fine = rw v }

letters_fine : (valued 103 ≡ true) × (valued 101 ≡ true) × (valued 111 ≡ true) × (valued 58 ≡ true)
unfolding valued
letters_fine = (refl, refl, refl, refl)

scheme_fair : (v : List ℕ) → Fair v → Fair (octets "geo:" ++ v)
unfolding octets
scheme_fair v h = fair_cons (low 103 (omega arith) letters_fine.0) (fair_cons (low 101 (omega arith) letters_fine.1) (fair_cons (low 111 (omega arith) letters_fine.2) (fair_cons (low 58 (omega arith) letters_fine.3) h)))

new_fair : {a b v : List ℕ} → NewGeo a b v → Fair v
new_fair (places.schemed {v = v} h) = scheme_fair v (floats_fair 44 marks_fine.2 h)

in_fair : {row k : ℕ} {v w : List ℕ} → Unbroken v → Fair v → ValueIn row k v w → Fair w
unfolding filled_by
in_fair u f (lines.ValueIn.place o m) = new_fair m
in_fair u f (lines.ValueIn.said {k = k} {v = v} n s) = subst Fair (sym (filled_law s u)) (fair_append (says_fair s f) (fair_repeat (lacking k v) marks_fine.1))

out_fair : {row k : ℕ} {v w : List ℕ} → Unbroken v → Fair v → ValueOut row k v w → Fair w
out_fair u f (lines.ValueOut.place m o) = floats_fair 59 marks_fine.1 o
out_fair u f (lines.ValueOut.said n s) = subst Fair (sym (anew_law s u)) (says_fair s f)

value_fair : (w : Way) (x y : Line) → Unbroken x.value → Fair x.value → GoesOver w x y → Fair y.value
value_fair Inward x y u f h = in_fair u f h.value
value_fair Outward x y u f h = out_fair u f h.value

-- ---- parameters

abbrev FairValue : Value → Type 0
FairValue v = Fair (value_text v)

-- a parameter that may stand in a line
record Sound (p : Param) : Type 0 where
  good : GoodParam p
  name : Fair p.name
  values : Each FairValue (values_of p)

split_param : (p : Param) → GoodParam p → Fair (param_text p) → Sound p
unfolding param_text Each
split_param p g f =
    let a = fair_split p.name (value_text p.first ++ led 44 value_text p.more) 61 (omega arith) f in
    let b = head_part 44 value_text (value_text p.first) p.more (omega arith) (fair_rest 61 (value_text p.first ++ led 44 value_text p.more) (omega arith) a.1) in
    record { good = g; name = a.0; values = (b.0, led_parts 44 value_text p.more (omega arith) b.1) }

join_param : (p : Param) → Sound p → Fair (param_text p)
unfolding param_text Each
join_param p s =
    fair_append s.name (fair_cons marks_fine.3 (fair_append s.values.0 (parts_led 44 value_text p.more marks_fine.2 s.values.1)))

split_params : (ps : List Param) → Each GoodParam ps → Each (λ p. Fair (param_text p)) ps → Each Sound ps
unfolding Each
split_params [] g f = tt
split_params (p ∷ ps) g f = (split_param p g.0 f.0, split_params ps g.1 f.1)

join_params : (ps : List Param) → Each Sound ps → Each (λ p. Fair (param_text p)) ps
unfolding Each
join_params [] s = tt
join_params (p ∷ ps) s = (join_param p s.0, join_params ps s.1)

good_params : (ps : List Param) → Each Sound ps → Each GoodParam ps
unfolding Each
good_params [] s = tt
good_params (p ∷ ps) s = (s.0.good, good_params ps s.1)

each_kept : (P : Value → Type 0) (vs : List Value) → Each P vs → Each P (kept vs)
unfolding Each kept
each_kept P [] h = tt
each_kept P (v ∷ vs) h = by (is_pref v) (λ e. rw e (each_kept P vs h.1)) (λ e. rw e (h.0, each_kept P vs h.1))

with_sound : (m : List ℕ) (us : List Value) → Word m → Fair m → Each GoodValue us → Each FairValue us → Each Sound (with_values m us)
unfolding Each
with_sound m [] w f g h = tt
with_sound m (u ∷ us) w f g h = (record { good = record { name = w; first = g.0; more = g.1 }; name = f; values = h }, tt)

changed_sound : (w : Way) (p : Param) → Sound p → Each Sound (changed w p)
unfolding changed Each
changed_sound Inward p s =
    by (is_type p)
    (λ e. rw e (with_sound p.name (kept (values_of p)) s.good.name s.name (each_kept GoodValue (values_of p) (s.good.first, s.good.more)) (each_kept FairValue (values_of p) s.values)))
    (λ e. rw e (s, tt))
changed_sound Outward p s = by (is_pref_param p) (λ e. rw e tt) (λ e. rw e (s, tt))

all_sound : (w : Way) (ps : List Param) → Each Sound ps → Each Sound (changed_all w ps)
unfolding changed_all Each
all_sound w [] s = tt
all_sound w (p ∷ ps) s = each_append Sound (changed w p) (changed_all w ps) (changed_sound w p s.0) (all_sound w ps s.1)

word_fair : (u : List ℕ) → Each Ascii u → Fair u
word_fair u h = fair_each u h

mark_sound : (w : Way) → Sound (mark w)
unfolding octets Each GoodValue value_text named letter digit hyphen bare quoted valued allowed
mark_sound Inward = record {
  good = record { name = record { some = omega arith; each = (refl, (refl, (refl, (refl, tt)))) }; first = (refl, tt); more = tt };
  name = word_fair (octets "PREF") (low 80 (omega arith) refl, (low 82 (omega arith) refl, (low 69 (omega arith) refl, (low 70 (omega arith) refl, tt))));
  values = (word_fair (octets "1") (low 49 (omega arith) refl, tt), tt);
}
mark_sound Outward = record {
  good = record { name = record { some = omega arith; each = (refl, (refl, (refl, (refl, tt)))) }; first = (refl, (refl, (refl, (refl, tt)))); more = tt };
  name = word_fair (octets "TYPE") (low 84 (omega arith) refl, (low 89 (omega arith) refl, (low 80 (omega arith) refl, (low 69 (omega arith) refl, tt))));
  values = (word_fair (octets "pref") (low 112 (omega arith) refl, (low 114 (omega arith) refl, (low 101 (omega arith) refl, (low 102 (omega arith) refl, tt)))), tt);
}

new_sound : (w : Way) (ps : List Param) → Each Sound ps → Each Sound (new_params w ps)
unfolding new_params Each
new_sound w ps s =
    each_append Sound (changed_all w ps) (pick (any_prefers w ps) (mark w ∷ []) []) (all_sound w ps s)
    (by (any_prefers w ps) (λ e. rw e (mark_sound w, tt)) (λ e. rw e tt))

-- ---- the line

-- a line by its parts
pub render_parts : (x : Line) → render x ≡ ((group_text x.group ++ x.name) ++ led 59 param_text x.params) ++ (58 ∷ x.value)
unfolding render front
render_parts x =
    let g = group_text x.group in
    let l = led 59 param_text x.params in
    append_assoc g (x.name ++ (l ++ (58 ∷ []))) x.value
    ∙ ap (λ (u : List ℕ). g ++ u) (append_assoc x.name (l ++ (58 ∷ [])) x.value)
    ∙ ap (λ (u : List ℕ). g ++ (x.name ++ u)) (append_assoc l (58 ∷ []) x.value)
    ∙ sym (append_assoc g x.name (l ++ (58 ∷ x.value)))
    ∙ sym (append_assoc (g ++ x.name) l (58 ∷ x.value))

record Pieces (x : Line) : Type 0 where
  head : Fair (group_text x.group ++ x.name)
  params : Each Sound x.params
  value : Fair x.value

pieces_of : (x : Line) → Readable x → Pieces x
pieces_of x r =
    let h = group_text x.group ++ x.name in
    let l = led 59 param_text x.params in
    let a = fair_split (h ++ l) x.value 58 (omega arith) (subst Fair (render_parts x) (clean_fair r.clean)) in
    let b = head_part 59 param_text h x.params (omega arith) a.0 in
    record {
      head = b.0;
      params = split_params x.params r.formed.params (led_parts 59 param_text x.params (omega arith) b.1);
      value = fair_rest 58 x.value (omega arith) a.1;
    }

readable_by : (y : Line) → Each (Is named) y.group → Word y.name → Pieces y → Readable y
readable_by y g m p =
    record {
      clean = fair_clean (subst Fair (sym (render_parts y))
          (fair_append (fair_append p.head (parts_led 59 param_text y.params marks_fine.1 (join_params y.params p.params))) (fair_cons marks_fine.0 p.value)));
      formed = record { group = g; name = m; params = good_params y.params p.params };
    }

new_params_lem : (w : Way) (x : Line) → (new_line w x).params ≡ new_params w x.params
unfolding new_line
new_params_lem w x = refl

new_head : (w : Way) (x : Line) → ((new_line w x).group ≡ x.group) × ((new_line w x).name ≡ x.name)
unfolding new_line
new_head w x = (refl, refl)

-- a line that goes over may be read as it is written
pub goes_readable : (w : Way) (x y : Line) → Readable x → GoesOver w x y → Readable y
goes_readable w x y r h =
    let q = (goes_from w x y (value_unbroken x r) h).1 in
    let p = pieces_of x r in
    let n = new_head w x in
    let a : y.group ≡ x.group = ap (λ (z : Line). z.group) q ∙ n.0 in
    let b : y.name ≡ x.name = ap (λ (z : Line). z.name) q ∙ n.1 in
    let c : y.params ≡ new_params w x.params = ap (λ (z : Line). z.params) q ∙ new_params_lem w x in
    readable_by y (subst (Each (Is named)) (sym a) r.formed.group) (subst Word (sym b) r.formed.name)
    (record {
      head = rw (a, b) p.head;
      params = rw c (new_sound w x.params p.params);
      value = value_fair w x y (value_unbroken x r) p.value h;
    })

number_fair : (w : Way) → Fair (number_written w)
unfolding octets Each valued
number_fair Inward = fair_each (octets "4.0") (low 52 (omega arith) refl, (low 46 (omega arith) refl, (low 48 (omega arith) refl, tt)))
number_fair Outward = fair_each (octets "3.0") (low 51 (omega arith) refl, (low 46 (omega arith) refl, (low 48 (omega arith) refl, tt)))

-- VERSION with its other number too
pub version_readable : (w : Way) (x : Line) → Readable x → Readable (versioned w x)
version_readable w x r =
    let p = pieces_of x r in
    readable_by (versioned w x) r.formed.group r.formed.name (record { head = p.head; params = p.params; value = number_fair w })

-- ---- its row and its kind

-- a name of another length is another name
other_name : (m p q : List ℕ) → same m p ≡ true → (length p ≡ length q → ⊥) → same m q ≡ false
other_name m p q e d =
    same_length m q (λ h. by (eqb (length m) (length p))
    (λ f. d (sym (eqb-true (length m) (length p) f) ∙ h))
    (λ f. true≢false (sym e ∙ same_length m p (eqb-false (length m) (length p) f))))

module _ (nm : List ℕ) (d : length nm ≡ 4 → ⊥) where
  first_changed : (w : Way) (p : Param) (rest : List Param) → first_named nm (changed w p ++ rest) ≡ first_named nm (p ∷ rest)
  unfolding first_named changed octets
  first_changed Inward p rest =
      by (is_type p)
      (λ e. rw (e, other_name p.name (octets "TYPE") nm e (λ h. d (sym h))) (go (kept (values_of p)) (other_name p.name (octets "TYPE") nm e (λ h. d (sym h)))))
      (λ e. rw e)
    where
      go : (us : List Value) → same p.name nm ≡ false → first_named nm (with_values p.name us ++ rest) ≡ first_named nm rest
      go [] e = refl
      go (u ∷ us) e = rw e
  first_changed Outward p rest = by (is_pref_param p) (λ e. rw (e, other_name p.name (octets "PREF") nm e (λ h. d (sym h)))) (λ e. rw e)

  first_more : (p : Param) (qs rs : List Param) → first_named nm qs ≡ first_named nm rs → first_named nm (p ∷ qs) ≡ first_named nm (p ∷ rs)
  unfolding first_named
  first_more p qs rs e = ap (pick (same p.name nm) (some p.first)) e

  first_all : (w : Way) (ps rest : List Param) → first_named nm (changed_all w ps ++ rest) ≡ first_named nm (ps ++ rest)
  unfolding changed_all
  first_all w [] rest = refl
  first_all w (p ∷ ps) rest =
      ap (first_named nm) (append_assoc (changed w p) (changed_all w ps) rest)
      ∙ first_changed w p (changed_all w ps ++ rest)
      ∙ first_more p (changed_all w ps ++ rest) (ps ++ rest) (first_all w ps rest)

  mark_other : (w : Way) → first_named nm (mark w ∷ []) ≡ first_named nm []
  unfolding first_named octets
  mark_other Inward = rw (same_length (octets "PREF") nm (λ h. d (sym h)))
  mark_other Outward = rw (same_length (octets "TYPE") nm (λ h. d (sym h)))

  first_behind : (ps qs rs : List Param) → first_named nm qs ≡ first_named nm rs → first_named nm (ps ++ qs) ≡ first_named nm (ps ++ rs)
  first_behind [] qs rs e = e
  first_behind (p ∷ ps) qs rs e = first_more p (ps ++ qs) (ps ++ rs) (first_behind ps qs rs e)

  pub first_kept : (w : Way) (ps : List Param) → first_named nm (new_params w ps) ≡ first_named nm ps
  unfolding new_params
  first_kept w ps =
      first_all w ps (pick (any_prefers w ps) (mark w ∷ []) [])
      ∙ by (any_prefers w ps)
      (λ e. rw e (first_behind ps (mark w ∷ []) [] (mark_other w) ∙ ap (first_named nm) (append-nil ps)))
      (λ e. rw e (ap (first_named nm) (append-nil ps)))

long_names : (length value_name ≡ 5) × (length calscale_name ≡ 8)
unfolding octets
long_names = (refl, refl)

pub row_kept : (w : Way) (x : Line) → row_of_line First (new_line w x) ≡ row_of_line First x
unfolding row_of_line new_line
row_kept w x = refl

-- VALUE and CALSCALE stay, so the kind does
pub kind_kept : (w : Way) (x : Line) → kind_of_line First (new_line w x) ≡ kind_of_line First x
unfolding kind_of_line param_value
kind_kept w x =
    let a = ap octets_of (ap (first_named value_name) (new_params_lem w x) ∙ first_kept value_name (λ e. omega (arith, long_names.0)) w x.params) in
    let b = ap octets_of (ap (first_named calscale_name) (new_params_lem w x) ∙ first_kept calscale_name (λ e. omega (arith, long_names.1)) w x.params) in
    ap (λ (n : ℕ). line_kind n (param_value value_name (new_line w x)) (param_value calscale_name (new_line w x))) (row_kept w x)
    ∙ ap (λ (v : Option (List ℕ)). line_kind (row_of_line First x) v (param_value calscale_name (new_line w x))) a
    ∙ ap (λ (c : Option (List ℕ)). line_kind (row_of_line First x) (param_value value_name x) c) b
