-- The law of `param_first`: in a line written out it answers the place of the first value of the first parameter of that name, without
-- case, and nothing where there is none. Assumes nothing.
use mathlib.Core.Path.{◌≡◌, refl, sym, ap, ◌∙◌, subst}
use mathlib.Core.Bool.{Bool, true, false, ◌||◌}
use mathlib.Core.List.{List, [], ◌∷◌, ◌++◌, append_assoc}
use mathlib.Core.Option.{Option, some}
use Prim.Native.Nat.{ℕ, zero, suc, ◌+◌}
use native.Mathlib.Omega.{arith}
use lib.Dec.{eqb}
use lib.ListN.{length, drop, length-append}
use borrow.Author.Tests.{eqb-true}
use Rattle.octets.specs.Pick.{pick}
use Rattle.octets.specs.Cases.{same}
use Rattle.octets.proofs.Bools.{clash}
use Rattle.line_parser.specs.Parse.{got, hd, many}
use Rattle.line_parser.specs.Grammar.{Value, plain, in_quotes, Param, Line, led, value_text, param_text, group_text, front, render, name_end, WellFormed}
use Rattle.line_parser.specs.Rule.{ends, is_colon, or_end, param, params, head, parse_line}
use Rattle.line_parameters.specs.First.{span_of, first_place, find_first, value_octets, first_named}
use Rattle.line_parameters.specs.First.{First}
use Rattle.line_parser.proofs.ParseLaws.{bad_got, guard_inv, pick_inv, next_inv}
use Rattle.line_parser.proofs.PartLaws.{param_parts, head_count}
use Rattle.line_parameters.specs.Found.{Found}
use Rattle.line_parameters.proofs.Sound.{param_sound}
use Rattle.line_parameters.proofs.Complete.{AfterParam, semicolon, colon, param_complete, line_complete}
use Rattle.line_parameters.proofs.PlacesLaw.{between}

-- where a parameter ends
after_ends : (c : ℕ) → ends c ≡ true → AfterParam c
unfolding ends
after_ends c h = go (eqb c 59) (eqb c 58) refl refl h
  where
    go : (a b : Bool) → eqb c 59 ≡ a → eqb c 58 ≡ b → a || b ≡ true → AfterParam c
    go true b e f h = subst AfterParam (sym (eqb-true c 59 e)) semicolon
    go false true e f h = subst AfterParam (sym (eqb-true c 58 f)) colon
    go false false e f h = clash cc

param_count : (l : List ℕ) (p : Param) (k : ℕ) → param l ≡ got p k → length (param_text p) ≡ k
param_count l p k h =
    param_parts l p k h (λ n i w e v stop.
    let s = param_sound l p k h in
    let c = ap param s.1 ∙ param_complete p (drop k l) s.0 (after_ends _ stop) in
    let r : got p (length (param_text p)) ≡ got p k = sym c ∙ h in
    cc)

-- in an accepted list of parameters the walk finds what the parts say
walk_law : (name : List ℕ) (n at : ℕ) (l : List ℕ) (ps : List Param) (k : ℕ) → params n l ≡ got ps k
    → find_first name at n l ≡ first_place name at ps
unfolding params many find_first first_place
walk_law name zero at l ps k h = absurd (bad_got h)
walk_law name (suc n) at l ps k h =
    pick_inv (eqb (hd l) 59) _ _ h
    (λ t q. next_inv (param (drop 1 l)) _ q (λ p i p₁ q₁. next_inv (many 59 param is_colon (or_end 40 43) n (drop i (drop 1 l))) _ q₁ (λ qs j p₂ q₂.
    let ih = walk_law name n (at + 1 + i) (drop i (drop 1 l)) qs j p₂ in
    let e : ps ≡ p ∷ qs = cc in
    let m = param_count (drop 1 l) p i p₁ in
    rw (e, t, p₁, ih, m))))
    (λ t q. guard_inv (is_colon (hd l)) _ _ q (λ t₁ q₁.
    let e : ps ≡ [] = cc in
    rw (t, e)))

-- in an accepted line the walk from the end of the name finds what the parts say
parsed_law : (name l : List ℕ) (x : Line) (k : ℕ) → parse_line l ≡ got x k
    → find_first name (name_end x) (suc (length (drop (name_end x) l))) (drop (name_end x) l) ≡ first_place name (name_end x) x.params
unfolding parse_line name_end
parsed_law name l x k h =
    next_inv (head l) _ h (λ y n p₁ q₁. next_inv (params (suc (length (drop n l))) (drop n l)) _ q₁ (λ ps j p₂ q₂.
    let ea : x ≡ record { group = y.group; name = y.name; params = ps; value = drop 1 (drop j (drop n l)) } = cc in
    rw (ea, head_count l y n p₁) (walk_law name _ n (drop n l) ps j p₂)))

-- the octets of a value that is written after `pre`
span_holds : (v : Value) (pre r : List ℕ) (at : ℕ) → length pre ≡ at → Found (pre ++ (value_text v ++ r)) (some v) (span_of at v)
unfolding value_text value_octets
span_holds (plain xs) pre r at hp =
    record {
      start = at;
      end = at + length xs;
      answer = refl;
      order = omega arith;
      inside = simp length-append (omega arith);
      octets = between pre xs r at (at + length xs) (sym hp) refl;
    }
span_holds (in_quotes xs) pre r at hp =
    let w : pre ++ ((34 ∷ (xs ++ 34 ∷ [])) ++ r) ≡ (pre ++ 34 ∷ []) ++ (xs ++ 34 ∷ r) = simp append_assoc in
    let n : length (pre ++ 34 ∷ []) ≡ length pre + 1 = length-append pre (34 ∷ []) in
    rw w record {
      start = at + 1;
      end = at + 1 + length xs;
      answer = refl;
      order = omega arith;
      inside = simp length-append (omega arith);
      octets = between (pre ++ 34 ∷ []) xs (34 ∷ r) (at + 1) (at + 1 + length xs) (omega arith) refl;
    }

picked : (l : List ℕ) (t : Bool) (o p : Option Value) (r s : First) → Found l o r → Found l p s → Found l (pick t o p) (pick t r s)
picked l true o p r s f g = f
picked l false o p r s f g = g

-- in parameters that are written after `pre`
params_hold : (name : List ℕ) (ps : List Param) (pre r : List ℕ) (at : ℕ) → length pre ≡ at
    → Found (pre ++ (led 59 param_text ps ++ r)) (first_named name ps) (first_place name at ps)
unfolding first_place first_named led param_text
params_hold name [] pre r at hp = refl
params_hold name (p ∷ ps) pre r at hp =
    let vt = value_text p.first in
    let m = led 44 value_text p.more in
    let rest = led 59 param_text ps in
    let start : List ℕ = pre ++ 59 ∷ (p.name ++ 61 ∷ []) in
    let n : length start ≡ at + 1 + length p.name + 1 =
    length-append pre (59 ∷ (p.name ++ 61 ∷ [])) ∙ omega (arith, length-append p.name (61 ∷ [])) in
    let w : pre ++ ((59 ∷ ((p.name ++ 61 ∷ (vt ++ m)) ++ rest)) ++ r) ≡ start ++ (vt ++ (m ++ (rest ++ r))) = simp append_assoc in
    let past : List ℕ = pre ++ 59 ∷ param_text p in
    let n' : length past ≡ at + 1 + length (param_text p) = length-append pre (59 ∷ param_text p) ∙ omega arith in
    let w' : pre ++ ((59 ∷ (param_text p ++ rest)) ++ r) ≡ past ++ (rest ++ r) = simp append_assoc in
    picked _ (same p.name name) (some p.first) (first_named name ps)
    (span_of (at + 1 + length p.name + 1) p.first) (first_place name (at + 1 + length (param_text p)) ps)
    (rw w (span_holds p.first start (m ++ (rest ++ r)) (at + 1 + length p.name + 1) n))
    (rw w' (params_hold name ps past r (at + 1 + length (param_text p)) n'))

-- in a well-formed line written out, whose name ends at n
pub first_law : (name : List ℕ) (x : Line) → WellFormed x
    → Found (render x) (first_named name x.params) (find_first name (name_end x) (suc (length (drop (name_end x) (render x)))) (drop (name_end x) (render x)))
unfolding render front name_end
first_law name x w =
    let line : render x ≡ (group_text x.group ++ x.name) ++ (led 59 param_text x.params ++ 58 ∷ x.value) = simp append_assoc in
    rw (parsed_law name (render x) x _ (line_complete x w), line) (params_hold name x.params (group_text x.group ++ x.name) (58 ∷ x.value) (name_end x) refl)
