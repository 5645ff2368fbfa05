-- A line as the other version has it is at most twice as long, and a few octets more. Assumes nothing.
use mathlib.Core.Path.{◌≡◌, refl, ap}
use mathlib.Core.Bool.{Bool, true, false, ◌&&◌}
use mathlib.Core.List.{List, [], ◌∷◌, ◌++◌}
use Prim.Native.Nat.{ℕ, zero, suc, pred, ◌+◌, ◌*◌, ◌≤◌}
use native.Mathlib.Omega.{arith}
use lib.Dec.{eqb}
use lib.ListN.{length, get_or, drop, length-append}
use Rattle.octets.specs.Pick.{pick}
use Rattle.octets.specs.Scan.{gather}
use Rattle.line_parser.specs.Parse.{Parse, got, bad}
use Rattle.line_parser.specs.Grammar.{Value, Param, Line, led, value_text, param_text, group_text, front, render}
use Rattle.line_parser.specs.Rule.{parse_line}
use Rattle.line_parameters.proofs.Sound.{line_sound}
use Rattle.property_table.specs.declared.Edition.TheVariants.{First}
use Rattle.card_line.specs.Parts.{row_of_line, kind_of_line}
use Rattle.version3_text.specs.Renewed.{pair_at, small, passed, bare_at, anew, renewed}
use Rattle.version3_geo.specs.Floats.{schemed, made_old, swapped}
use Rattle.version3_geo.proofs.GeoLaws.{made_new_length, old_length}
use Rattle.version3_parameters.specs.declared.Way.{Way}
use Rattle.version3_parameters.specs.declared.Way.TheVariants.{Inward, Outward}
use Rattle.version3_parameters.specs.Params.{is_pref, kept, values_of, with_values, is_type, is_pref_param, changed, changed_all, any_prefers, mark, new_params, params_text}
use Rattle.version3_parameters.proofs.EachLaws.{led_append}
use Rattle.version3_parameters.proofs.RestLaws.{mark_in, mark_out}
use Rattle.version3_line.specs.Lines.{needed, parted, anew_by, lacking, version_text, geo_by, text_by, new_value, new_line, written_by}
use Rattle.version3_line.proofs.LineLaws.{filled_length, version_length}

pick_le : (t : Bool) (a b : List ℕ) (n : ℕ) → length a ≤ n → length b ≤ n → length (pick t a b) ≤ n
pick_le true a b n h k = h
pick_le false a b n h k = k

-- text escaped anew
anew_two : (w : Bool) (l : List ℕ) → length (anew w l) ≤ 2
unfolding anew
anew_two w l =
    pick_le (pair_at l) (92 ∷ small (get_or l 1 0) ∷ []) _ 2 (omega arith) (pick_le (w && bare_at l) (92 ∷ 59 ∷ []) (get_or l 0 0 ∷ []) 2 (omega arith) (omega arith))

gather_two : (w : Bool) (l : List ℕ) (k : ℕ) → length (gather passed (anew w) l k) ≤ 2 * length l
unfolding gather
gather_two w [] k = omega arith
gather_two w (x ∷ xs) zero =
    let rest = gather passed (anew w) xs (pred (passed (x ∷ xs))) in
    omega (arith, length-append (anew w (x ∷ xs)) rest, anew_two w (x ∷ xs), gather_two w xs (pred (passed (x ∷ xs))))
gather_two w (x ∷ xs) (suc k) = omega (arith, gather_two w xs k)

renewed_two : (w : Bool) (l : List ℕ) → length (renewed w l) ≤ 2 * length l
unfolding renewed
renewed_two w l = gather_two w l 0

anew_by_two : (k : ℕ) (v : List ℕ) → length (anew_by k v) ≤ 2 * length v
unfolding anew_by
anew_by_two k v =
    pick_le (eqb k 1) (renewed true v) _ (2 * length v) (renewed_two true v) (pick_le (parted k) (renewed false v) v (2 * length v) (renewed_two false v) (omega arith))

needed_six : (k : ℕ) → needed k ≤ 6
unfolding needed
needed_six k = by (eqb k 4) (eqb k 5)
  where
    by : (a b : Bool) → pick a 4 (pick b 6 0) ≤ 6
    by true b = omega arith
    by false true = omega arith
    by false false = omega arith

lacking_six : (k : ℕ) (v : List ℕ) → lacking k v ≤ 6
unfolding lacking
lacking_six k v = omega (arith, needed_six k)

text_two : (w : Way) (k : ℕ) (v : List ℕ) → length (text_by w k v) ≤ 2 * length v + 6
text_two Inward k v = omega (arith, filled_length k v, lacking_six k v, anew_by_two k v)
text_two Outward k v = omega (arith, anew_by_two k v)

old_most : (v : List ℕ) → length (made_old v) ≤ length v
unfolding made_old
old_most v = pick_le (schemed v) (swapped 44 59 (drop 4 v)) v (length v) (omega (arith, old_length v)) (omega arith)

geo_most : (w : Way) (v : List ℕ) → length (geo_by w v) ≤ length v + 4
geo_most Inward v = omega (arith, made_new_length v)
geo_most Outward v = omega (arith, old_most v)

value_most : (w : Way) (row k : ℕ) (v : List ℕ) → length (new_value w row k v) ≤ 2 * length v + 6
unfolding new_value
value_most w row k v =
    pick_le (eqb row 34) (version_text w) _ (2 * length v + 6) (omega (arith, version_length w))
    (pick_le (eqb row 19) (geo_by w v) (text_by w k v) (2 * length v + 6) (omega (arith, geo_most w v)) (text_two w k v))

-- parameters
kept_led : (vs : List Value) → length (led 44 value_text (kept vs)) ≤ length (led 44 value_text vs)
unfolding kept led
kept_led [] = omega arith
kept_led (v ∷ vs) = by (is_pref v) (kept_led vs)
  where
    by : (t : Bool) → length (led 44 value_text (kept vs)) ≤ length (led 44 value_text vs) → length (led 44 value_text (pick t (kept vs) (v ∷ kept vs))) ≤ length (led 44 value_text (v ∷ vs))
    by true h = omega (arith, length-append (value_text v) (led 44 value_text vs), h)
    by false h = omega (arith, length-append (value_text v) (led 44 value_text vs), length-append (value_text v) (led 44 value_text (kept vs)), h)

-- the length of a parameter with these values
with_length : (n : List ℕ) (v : Value) (vs : List Value) → length (params_text (with_values n (v ∷ vs))) ≡ 2 + length n + length (value_text v) + length (led 44 value_text vs)
unfolding params_text led param_text
with_length n v vs =
    let b = value_text v ++ led 44 value_text vs in
    omega (arith, length-append (n ++ 61 ∷ b) [], length-append n (61 ∷ b), length-append (value_text v) (led 44 value_text vs))

kept_with : (n : List ℕ) (vs : List Value) → length (params_text (with_values n (kept vs))) ≤ 1 + length n + length (led 44 value_text vs)
unfolding kept led params_text
kept_with n [] = omega arith
kept_with n (v ∷ vs) = by (is_pref v) (kept_with n vs)
  where
    by : (t : Bool) → length (params_text (with_values n (kept vs))) ≤ 1 + length n + length (led 44 value_text vs) → length (params_text (with_values n (pick t (kept vs) (v ∷ kept vs)))) ≤ 1 + length n + length (led 44 value_text (v ∷ vs))
    by true h = omega (arith, h, length-append (value_text v) (led 44 value_text vs))
    by false h = omega (arith, with_length n v (kept vs), kept_led vs, length-append (value_text v) (led 44 value_text vs))

type_most : (n : List ℕ) (v : Value) (vs : List Value) → length (params_text (with_values n (kept (v ∷ vs)))) ≤ 2 + length n + length (value_text v) + length (led 44 value_text vs)
unfolding kept
type_most n v vs = by (is_pref v)
  where
    by : (t : Bool) → length (params_text (with_values n (pick t (kept vs) (v ∷ kept vs)))) ≤ 2 + length n + length (value_text v) + length (led 44 value_text vs)
    by true = omega (arith, kept_with n vs)
    by false = omega (arith, with_length n v (kept vs), kept_led vs)

nothing : length (params_text []) ≡ 0
unfolding params_text led
nothing = refl

changed_most : (w : Way) (p : Param) → length (params_text (changed w p)) ≤ 2 + length p.name + length (value_text p.first) + length (led 44 value_text p.more)
unfolding changed
changed_most Inward p = by (is_type p)
  where
    by : (t : Bool) → length (params_text (pick t (with_values p.name (kept (values_of p))) (p ∷ []))) ≤ 2 + length p.name + length (value_text p.first) + length (led 44 value_text p.more)
    by true = type_most p.name p.first p.more
    by false = omega (arith, with_length p.name p.first p.more)
changed_most Outward p = by (is_pref_param p)
  where
    by : (t : Bool) → length (params_text (pick t [] (p ∷ []))) ≤ 2 + length p.name + length (value_text p.first) + length (led 44 value_text p.more)
    by true = omega (arith, nothing)
    by false = omega (arith, with_length p.name p.first p.more)

one_param : (p : Param) → length (param_text p) ≡ 1 + length p.name + length (value_text p.first) + length (led 44 value_text p.more)
unfolding param_text
one_param p =
    let b = value_text p.first ++ led 44 value_text p.more in
    omega (arith, length-append p.name (61 ∷ b), length-append (value_text p.first) (led 44 value_text p.more))

all_most : (w : Way) (ps : List Param) → length (params_text (changed_all w ps)) ≤ length (params_text ps)
unfolding changed_all params_text led
all_most w [] = omega arith
all_most w (p ∷ ps) =
    omega (
      arith,
      ap length (led_append 59 param_text (changed w p) (changed_all w ps)),
      length-append (led 59 param_text (changed w p)) (led 59 param_text (changed_all w ps)),
      all_most w ps,
      changed_most w p,
      one_param p,
      length-append (param_text p) (led 59 param_text ps),
    )

mark_ten : (w : Way) → length (params_text (mark w ∷ [])) ≤ 10
mark_ten Inward = omega (arith, ap length (mark_in Inward refl))
mark_ten Outward = omega (arith, ap length (mark_out Outward refl))

text_append : (ps qs : List Param) → params_text (ps ++ qs) ≡ params_text ps ++ params_text qs
unfolding params_text
text_append ps qs = led_append 59 param_text ps qs

params_most : (w : Way) (ps : List Param) → length (params_text (new_params w ps)) ≤ length (params_text ps) + 10
unfolding new_params
params_most w ps = by (any_prefers w ps)
  where
    by : (t : Bool) → length (params_text (changed_all w ps ++ pick t (mark w ∷ []) [])) ≤ length (params_text ps) + 10
    by true = omega (arith, ap length (text_append (changed_all w ps) (mark w ∷ [])), length-append (params_text (changed_all w ps)) (params_text (mark w ∷ [])), all_most w ps, mark_ten w)
    by false = omega (arith, ap length (text_append (changed_all w ps) []), length-append (params_text (changed_all w ps)) (params_text []), all_most w ps, nothing)

-- a line
line_most : (w : Way) (x : Line) → length (render (new_line w x)) ≤ 2 * length (render x) + 16
unfolding new_line render front params_text
line_most w x =
    let a = x.name in
    let g = group_text x.group in
    let p = led 59 param_text x.params in
    let q = led 59 param_text (new_params w x.params) in
    let v = new_value w (row_of_line First x) (kind_of_line First x) x.value in
    omega (
      arith,
      params_most w x.params,
      value_most w (row_of_line First x) (kind_of_line First x) x.value,
      length-append (g ++ (a ++ (p ++ 58 ∷ []))) x.value,
      length-append g (a ++ (p ++ 58 ∷ [])),
      length-append a (p ++ 58 ∷ []),
      length-append p (58 ∷ []),
      length-append (g ++ (a ++ (q ++ 58 ∷ []))) v,
      length-append g (a ++ (q ++ 58 ∷ [])),
      length-append a (q ++ 58 ∷ []),
      length-append q (58 ∷ []),
    )

pub written_most : (w : Way) (l : List ℕ) → length (written_by w (parse_line l)) ≤ 2 * length l + 16
written_most w l = by (parse_line l) refl
  where
    by : (m : Parse Line) → parse_line l ≡ m → length (written_by w m) ≤ 2 * length l + 16
    by (got x k) e = omega (arith, line_most w x, ap length (line_sound l x k e).1)
    by (bad n) e = omega arith
