-- The parameters that are left of a line from a place on, and the values that are left of a parameter. Assumes nothing.
use mathlib.Core.Path.{◌≡◌, refl, sym, ap, ◌∙◌, subst}
use mathlib.Core.Bool.{Bool, true, false, ◌||◌}
use mathlib.Core.List.{List, [], ◌∷◌, ◌++◌, append-nil, append_assoc}
use Prim.Native.Nat.{ℕ, suc, ◌+◌, ◌-◌, ◌<◌, ◌≤◌}
use native.Mathlib.Omega.{arith}
use lib.Dec.{eqb}
use borrow.Author.Tests.{ne_eqb}
use lib.ListN.{length, get_or, take, drop, length-append, length-drop}
use lib.Seq.{take_at, length-take-le, drop-drop, drop-append_seam}
use Rattle.line_parser.specs.Parse.{Parse, got, bad, hd}
use Rattle.line_parser.specs.Grammar.{Value, Param, Each, GoodValue, GoodParam, led, value_text, param_text, group_text, front, render, name_end}
use Rattle.line_parser.specs.Rule.{value, param, parse_line}
use Rattle.line_parser.specs.Places.{Part}
use Rattle.line_parser.specs.Places.{Upto}
use Rattle.line_parser.specs.Places.{place}
use Rattle.line_parser.proofs.Steps.{look, place_upto}
use Rattle.line_parameters.proofs.Sound.{line_sound, param_sound}
use Rattle.line_parameters.proofs.Complete.{AfterValue, comma, AfterParam, semicolon, colon, value_complete, param_complete}
use Rattle.card_line.specs.Parts.{Accepted}
use Rattle.octets.specs.Pick.{pick}
use Rattle.line_parser.proofs.PartLaws.{param_parts}
use Rattle.line_parameters.proofs.FirstSteps.{NameEnd}
use Rattle.version3_parameters.specs.Params.{mark, pref_text, is_pref, kept, any_pref, values_of, with_values, params_text}
use Rattle.version3_parameters.specs.Places.{Holds, ParamAt, piece, type_by, pref_by, params_by, params_of}
use Rattle.version3_parameters.specs.declared.ValueSpan.{ValueSpan}
use Rattle.octets.specs.Cases.{same}
use Rattle.octets.specs.Ascii.{octets}
use Rattle.version3_parameters.specs.declared.Way.{Way}
use Rattle.version3_parameters.specs.declared.Way.TheVariants.{Inward, Outward}
use Rattle.version3_parameters.proofs.ValueLaws.{after_ends, param_count}

-- the parameters ps stand in the line s from a place on, and behind them the value
pub record Rest (s : List ℕ) (at : ℕ) (ps : List Param) : Type 0 where
  pub value : List ℕ
  pub text : drop at s ≡ led 59 param_text ps ++ (58 ∷ value)
  pub good : Each GoodParam ps

pub rest_start : (s : List ℕ) (end : ℕ) → Accepted s end → Rest s end (params_of s)
unfolding params_of render front name_end
rest_start s end a =
    let w = line_sound s a.parts a.start a.parsed in
    let x = a.parts in
    let b = led 59 param_text x.params in
    let ps : params_by (parse_line s) ≡ x.params = ap params_by a.parsed in
    let t : s ≡ (group_text x.group ++ x.name) ++ (b ++ (58 ∷ x.value)) = w.1 ∙ simp append_assoc in
    rw ps record {
      value = x.value;
      text = rw a.ends (ap (drop (length (group_text x.group ++ x.name))) t ∙ drop-append_seam (group_text x.group ++ x.name) (b ++ (58 ∷ x.value)));
      good = w.0.params;
    }

-- something is always left
pub rest_inside : {s : List ℕ} {at : ℕ} {ps : List Param} → Rest s at ps → at < length s
rest_inside {s} {at} {ps} r =
    let n : length (drop at s) ≡ length (led 59 param_text ps) + suc (length r.value) = ap length r.text ∙ length-append (led 59 param_text ps) (58 ∷ r.value) in
    let m = length-drop at s in
    omega (arith, n, m)

pub rest_none : {s : List ℕ} {at : ℕ} (ps : List Param) → Rest s at ps → (get_or s at 0 ≡ 59 → ⊥) → ps ≡ []
unfolding led
rest_none [] r n = refl
rest_none {s} {at} (p ∷ ps) r n = absurd (n (sym (look s at) ∙ ap hd r.text))

after_params : (ps : List Param) (v : List ℕ) → AfterParam (hd (led 59 param_text ps ++ (58 ∷ v)))
unfolding led
after_params [] v = colon
after_params (p ∷ ps) v = semicolon

-- the next parameter, and what is left behind it
pub record Next (s : List ℕ) (at : ℕ) (ps : List Param) : Type 0 where
  pub first : Param
  pub others : List Param
  pub all : ps ≡ first ∷ others
  pub read : param (drop (at + 1) s) ≡ got first (length (param_text first))
  pub left : Rest s (at + 1 + length (param_text first)) others
  pub inside : at + 1 + length (param_text first) < length s

pub rest_next : {s : List ℕ} {at : ℕ} (ps : List Param) → Rest s at ps → get_or s at 0 ≡ 59 → Next s at ps
unfolding led Each
rest_next {s} {at} [] r h = let e : hd (drop at s) ≡ 58 = ap hd r.text in absurd (omega (arith, e, look s at, h))
rest_next {s} {at} (p ∷ ps) r h =
    let tail : List ℕ = led 59 param_text ps ++ (58 ∷ r.value) in
    let t : drop (at + 1) s ≡ param_text p ++ tail =
    sym (drop-drop 1 at s) ∙ ap (drop 1) r.text ∙ append_assoc (param_text p) (led 59 param_text ps) (58 ∷ r.value) in
    let left : Rest s (at + 1 + length (param_text p)) ps =
    record {
      value = r.value;
      text = sym (drop-drop (length (param_text p)) (at + 1) s) ∙ ap (drop (length (param_text p))) t ∙ drop-append_seam (param_text p) tail;
      good = r.good.1;
    } in
    record {
      first = p;
      others = ps;
      all = refl;
      read = ap param t ∙ param_complete p tail r.good.0 (after_params ps r.value);
      left = left;
      inside = rest_inside left;
    }

pub next_at : {s : List ℕ} {at : ℕ} {ps : List Param} (n : Next s at ps) (end : ℕ) → end ≡ at + 1 + length (param_text n.first) → ParamAt s (at + 1) end
next_at n end e = record { it = n.first; count = length (param_text n.first); read = n.read; ends = e }

-- the values vs of a parameter stand in the line s from a place up to its end; past it none is left
pub data Values (s : List ℕ) (end : ℕ) : ℕ → List Value → Type 0 where
  none : Values s end (end + 1) []
  more : {at : ℕ} {v : Value} {vs : List Value} → drop at s ≡ (value_text v ++ led 44 value_text vs) ++ drop end s → at + length (value_text v ++ led 44 value_text vs) ≡ end
      → GoodValue v → Each GoodValue vs → Values s end at (v ∷ vs)

-- where reading it ends
pub next_upto : {s : List ℕ} {at : ℕ} {ps : List Param} (n : Next s at ps) {r : Part} {e : ℕ} → r ≡ place (at + 1) (param (drop (at + 1) s)) → r ≡ Upto e
    → e ≡ at + 1 + length (param_text n.first)
next_upto {s} {at} n h q =
    place_upto (at + 1) (param (drop (at + 1) s)) h q (λ p k g i.
    let e : got p k ≡ got n.first (length (param_text n.first)) = sym g ∙ n.read in
    let j : k ≡ length (param_text n.first) = cc in
    i ∙ ap (λ (m : ℕ). at + 1 + m) j)

-- the next value, and what is left behind it and its comma
pub record NextValue (s : List ℕ) (end at : ℕ) (vs : List Value) : Type 0 where
  pub first : Value
  pub others : List Value
  pub all : vs ≡ first ∷ others
  pub read : value (drop at s) ≡ got first (length (value_text first))
  pub left : Values s end (at + length (value_text first) + 1) others
  pub within_param : at + length (value_text first) ≤ end

pub values_over : {s : List ℕ} {end at : ℕ} {vs : List Value} → Values s end at vs → end < at → vs ≡ []
values_over none h = refl
values_over (more {at} {v} {vs} t n g gs) h = absurd (omega (arith, n))

after_value : (vs : List Value) (r : List ℕ) → AfterParam (hd r) → AfterValue (hd (led 44 value_text vs ++ r))
unfolding led
after_value [] r a = go a
  where
    go : {c : ℕ} → AfterParam c → AfterValue c
    go semicolon = semicolon
    go colon = colon
after_value (v ∷ vs) r a = comma

pub values_next_lem : {s : List ℕ} {end at : ℕ} {vs : List Value} → Values s end at vs → at ≤ end → AfterParam (hd (drop end s)) → NextValue s end at vs
unfolding led Each
values_next_lem {s} {end} none h a = absurd (omega arith)
values_next_lem {s} {end} (more {at} {v} {vs} t n g gs) h a =
    let x = value_text v in
    let b = led 44 value_text vs in
    let t' : drop at s ≡ x ++ (b ++ drop end s) = t ∙ append_assoc x b (drop end s) in
    let behind : drop (at + length x) s ≡ b ++ drop end s = sym (drop-drop (length x) at s) ∙ ap (drop (length x)) t' ∙ drop-append_seam x (b ++ drop end s) in
    let m : at + (length x + length b) ≡ end = rw (← length-append x b) n in
    record {
      first = v;
      others = vs;
      all = refl;
      read = ap value t' ∙ value_complete v (b ++ drop end s) g (after_value vs (drop end s) a);
      left = rest vs gs behind m;
      within_param = omega (arith, m);
    }
  where
    rest : (us : List Value) → Each GoodValue us → drop (at + length (value_text v)) s ≡ led 44 value_text us ++ drop end s
        → at + (length (value_text v) + length (led 44 value_text us)) ≡ end → Values s end (at + length (value_text v) + 1) us
    rest [] gs b m = subst (λ (k : ℕ). Values s end (k + 1) []) (sym (omega arith)) none
    rest (u ∷ us) gs b m =
        let k : at + length (value_text v) + 1 + length (value_text u ++ led 44 value_text us) ≡ end = omega (arith, m) in
        more (sym (drop-drop 1 (at + length (value_text v)) s) ∙ ap (drop 1) b) k gs.0 gs.1

-- the values of a parameter that was read, behind its name and the `=`
module _ (s : List ℕ) (start end : ℕ) (p : ParamAt s start end) where
  whole : drop start s ≡ param_text p.it ++ drop end s
  whole =
      (param_sound (drop start s) p.it p.count p.read).1
      ∙ ap (λ (r : List ℕ). param_text p.it ++ r) (drop-drop p.count start s ∙ ap (λ (k : ℕ). drop k s) (sym p.ends))

  pub param_after : AfterParam (hd (drop end s))
  param_after =
      param_parts (drop start s) p.it p.count p.read (λ n i w e v stop.
      rw (p.ends, ← drop-drop p.count start s) (after_ends _ stop))

  pub param_values : (e : ℕ) → NameEnd s start p.it e → Values s end (e + 1) (values_of p.it)
  unfolding param_text
  param_values e n =
      let q = p.it in
      let b = value_text q.first ++ led 44 value_text q.more in
      let g = (param_sound (drop start s) q p.count p.read).0 in
      let t : drop start s ≡ (q.name ++ 61 ∷ []) ++ (b ++ drop end s) = whole ∙ simp append_assoc in
      let m : length (q.name ++ 61 ∷ []) ≡ length q.name + 1 = length-append q.name (61 ∷ []) in
      let k : start + length (q.name ++ 61 ∷ []) ≡ e + 1 = omega (arith, m, n.there) in
      let c : length (param_text q) ≡ length q.name + suc (length b) = length-append q.name (61 ∷ b) in
      let l : e + 1 + length b ≡ end = omega (arith, c, n.there, p.ends, param_count (drop start s) q p.count p.read) in
      more (ap (λ (j : ℕ). drop j s) (sym k) ∙ sym (drop-drop (length (q.name ++ 61 ∷ [])) start s) ∙ ap (drop (length (q.name ++ 61 ∷ []))) t
      ∙ drop-append_seam (q.name ++ 61 ∷ []) (b ++ drop end s)) l g.first g.more

-- what is left to write of a TYPE of that name, w octets of it being written
unfoldable pub left : List ℕ → ℕ → List Value → List ℕ
left n w vs = pick (eqb w 0) (params_text (with_values n (kept vs))) (led 44 value_text (kept vs))

pub left_none : (n : List ℕ) (w : ℕ) → left n w [] ≡ []
unfolding left kept params_text led
left_none n w = by (eqb w 0)
  where
    by : (t : Bool) → ◌≡◌ {A = List ℕ} (pick t [] []) []
    by true = refl
    by false = refl

pub left_pref : (n : List ℕ) (w : ℕ) (v : Value) (vs : List Value) → is_pref v ≡ true → left n w (v ∷ vs) ≡ left n w vs
unfolding left kept
left_pref n w v vs e = rw e

pub left_later : (n : List ℕ) (w : ℕ) (vs : List Value) → 0 < w → left n w vs ≡ led 44 value_text (kept vs)
unfolding left
left_later n w vs h = rw (ne_eqb w 0 (λ e. omega arith))

pub left_kept : (n : List ℕ) (w : ℕ) (v : Value) (vs : List Value) → is_pref v ≡ false → left n w (v ∷ vs) ≡ piece (eqb w 0) n (value_text v) ++ led 44 value_text (kept vs)
unfolding left kept params_text led param_text piece
left_kept n w v vs e = rw e (by (eqb w 0))
  where
    by : (t : Bool) → pick t (params_text (with_values n (v ∷ kept vs))) (led 44 value_text (v ∷ kept vs)) ≡ piece t n (value_text v) ++ led 44 value_text (kept vs)
    by true = simp (append-nil, append_assoc)
    by false = refl

-- a value is written behind its name or a comma
pub piece_first : (f : Bool) (n v : List ℕ) → f ≡ true → piece f n v ≡ (59 ∷ n) ++ (61 ∷ v)
unfolding piece
piece_first f n v e = rw e

pub piece_later : (f : Bool) (n v : List ℕ) → f ≡ false → piece f n v ≡ 44 ∷ v
unfolding piece
piece_later f n v e = rw e

pub piece_some : (f : Bool) (n v : List ℕ) → 0 < length (piece f n v)
unfolding piece
piece_some true n v = omega arith
piece_some false n v = omega arith

pub left_start : (n : List ℕ) (vs : List Value) → left n 0 vs ≡ params_text (with_values n (kept vs))
unfolding left
left_start n vs = refl

-- of a parameter that was read: its name, all that is left of it at first, and whether a value of it is pref
abbrev pub name_by : Parse Param → List ℕ
name_by (got p k) = p.name
name_by (bad e) = []

pub type_start : (m : Parse Param) (p : Param) (k : ℕ) → m ≡ got p k → type_by m ≡ left (name_by m) 0 (values_of p)
unfolding left
type_start m p k e = rw e

pub pref_start : (m : Parse Param) (p : Param) (k : ℕ) → m ≡ got p k → (false || any_pref (values_of p)) ≡ pref_by m
pref_start m p k e = rw e

-- a value that stands in the line, and the place behind it
pub holds_next : {s : List ℕ} {at : ℕ} {v : Value} {r : ValueSpan} → Holds s at v r → r.next ≡ at + length (value_text v)
holds_next {s} {at} {v} {r} h =
    let n = ap length h.text in
    let m : length (take (r.next - at) (drop at s)) ≡ r.next - at = length-take-le (r.next - at) (drop at s) (rw length-drop (omega (arith, h.inside))) in
    omega (arith, n, m, h.from)

pub holds_pref : {s : List ℕ} {at : ℕ} {v : Value} {r : ValueSpan} → Holds s at v r → same (take (r.end - r.start) (drop r.start s)) pref_text ≡ is_pref v
unfolding is_pref
holds_pref {s} {at} {v} {r} h = ap (λ (l : List ℕ). same l pref_text) h.octets

-- pref is found, or not
pub said_yes : (g : Bool) (v : Value) (vs : List Value) (x : Bool) → is_pref v ≡ true → (g || any_pref (v ∷ vs)) ≡ x → (true || any_pref vs) ≡ x
unfolding any_pref
said_yes true v vs x e h = h
said_yes false v vs x e h = rw e at h

pub said_no : (g : Bool) (v : Value) (vs : List Value) (x : Bool) → is_pref v ≡ false → (g || any_pref (v ∷ vs)) ≡ x → (g || any_pref vs) ≡ x
unfolding any_pref
said_no g v vs x e h = rw e at h

pub said_end : (g x : Bool) → (g || any_pref []) ≡ x → g ≡ x
unfolding any_pref
said_end true x h = h
said_end false x h = h

-- the parameter that says in the other version that a line is preferred
pub mark_in : (w : Way) → w ≡ Inward → params_text (mark w ∷ []) ≡ 59 ∷ 80 ∷ 82 ∷ 69 ∷ 70 ∷ 61 ∷ 49 ∷ []
unfolding params_text led param_text value_text octets
mark_in w e = rw e

pub mark_out : (w : Way) → w ≡ Outward → params_text (mark w ∷ []) ≡ 59 ∷ 84 ∷ 89 ∷ 80 ∷ 69 ∷ 61 ∷ 112 ∷ 114 ∷ 101 ∷ 102 ∷ []
unfolding params_text led param_text value_text octets
mark_out w e = rw e

-- the values of a parameter that was read start before its end
pub name_within : (s : List ℕ) (start end : ℕ) (p : ParamAt s start end) (e : ℕ) → NameEnd s start p.it e → e + 1 ≤ end
unfolding param_text
name_within s start end p e n =
    let q = p.it in
    let b = value_text q.first ++ led 44 value_text q.more in
    let c : length (param_text q) ≡ length q.name + suc (length b) = length-append q.name (61 ∷ b) in
    omega (arith, c, n.there, p.ends, param_count (drop start s) q p.count p.read)

pub values_text : {s : List ℕ} {end at : ℕ} (v : Value) (vs : List Value) → Values s end at (v ∷ vs)
    → (take (end - at) (drop at s) ≡ value_text v ++ led 44 value_text vs) × GoodValue v
values_text {s} {end} {at} v vs (more t n g gs) =
    let b = value_text v ++ led 44 value_text vs in
    let k : length b ≡ end - at = omega (arith, n) in
    (ap (take (end - at)) t ∙ take_at b (drop end s) (end - at) k, g)
