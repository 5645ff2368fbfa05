-- Where a value that was read stands in a line, and where a parameter does. Assumes nothing.
use mathlib.Core.Path.{◌≡◌, refl, sym, ap, ◌∙◌, subst}
use mathlib.Core.Bool.{Bool, true, false, ◌||◌}
use mathlib.Core.List.{List, [], ◌∷◌}
use Prim.Native.Nat.{ℕ, suc, ◌+◌, ◌-◌, ◌<◌, ◌≤◌}
use native.Mathlib.Omega.{arith}
use lib.Dec.{eqb}
use lib.ListN.{length, get_or, take, drop, length-append, drop_of_length-le}
use lib.Seq.{take_at, drop-drop, length-take-le}
use borrow.Author.Tests.{eqb-true}
use Rattle.octets.specs.Classes.{run, quoted, bare, has, bare_mask, quoted_mask}
use Rattle.octets.proofs.Runs.{run_has}
use Rattle.octets.proofs.Masks.{has_bare, has_quoted}
use Rattle.octets.proofs.Bools.{clash}
use Rattle.line_parser.specs.Parse.{got, hd}
use Rattle.line_parser.specs.Grammar.{Value, plain, in_quotes, Param, value_text, param_text}
use Rattle.line_parser.specs.Rule.{value, closing, param, ends}
use Rattle.line_parser.proofs.ParseLaws.{guard_inv}
use Rattle.line_parser.proofs.PartLaws.{run_le, param_parts}
use Rattle.line_parser.proofs.Steps.{is, isnt, inside}
use Rattle.line_parameters.specs.First.{value_octets}
use Rattle.line_parameters.proofs.Sound.{value_sound, param_sound}
use Rattle.line_parameters.proofs.Complete.{AfterParam, semicolon, colon, param_complete}
use Rattle.version3_parameters.specs.Places.{Holds, ParamAt}

-- how a value was read, by its first octet
bare_read : (l : List ℕ) (v : Value) (k : ℕ) → value l ≡ got v k → eqb (hd l) 34 ≡ false → (v ≡ plain (take (run bare l) l)) × (k ≡ run bare l)
unfolding value
bare_read l v k h t = let q : got (plain (take (run bare l) l)) (run bare l) ≡ got v k = rw t at h in (cc, cc)

quoted_read : (l : List ℕ) (v : Value) (k : ℕ) → value l ≡ got v k → eqb (hd l) 34 ≡ true
    → (v ≡ in_quotes (take (run quoted (drop 1 l)) (drop 1 l))) × (k ≡ suc (run quoted (drop 1 l) + 1)) × (hd (drop (run quoted (drop 1 l)) (drop 1 l)) ≡ 34)
unfolding value closing
quoted_read l v k h t =
    let g = rw t at h in
    guard_inv (eqb (hd (drop (run quoted (drop 1 l)) (drop 1 l))) 34) 42 _ g (λ u q. (cc, cc, eqb-true _ 34 u))

value_count : (l : List ℕ) (v : Value) (k : ℕ) → value l ≡ got v k → length (value_text v) ≡ k
unfolding value_text
value_count l v k h = by (eqb (hd l) 34) refl
  where
    by : (t : Bool) → eqb (hd l) 34 ≡ t → length (value_text v) ≡ k
    by false t = let r = bare_read l v k h t in rw (r.0, r.1) (length-take-le (run bare l) l (run_le bare l))
    by true t =
        let r = quoted_read l v k h t in
        let m = drop 1 l in
        rw (r.0, r.1, length-append (take (run quoted m) m) (34 ∷ []), length-take-le (run quoted m) m (run_le quoted m))

module _ (s : List ℕ) (at : ℕ) (h : at ≤ length s) (v : Value) (k : ℕ) (q : value (drop at s) ≡ got v k) where
  text_there : take k (drop at s) ≡ value_text v
  text_there =
      ap (take k) (value_sound (drop at s) v k q).1 ∙ take_at (value_text v) (drop k (drop at s)) k (value_count (drop at s) v k q)

  pub value_none : length s ≤ at → Holds s at v (record { start = at; end = at; next = at })
  unfolding value_octets run
  value_none g =
      let n : drop at s ≡ [] = drop_of_length-le s g in
      let r = bare_read (drop at s) v k q (rw n refl) in
      let z : k ≡ 0 = r.1 ∙ rw n refl in
      let e : v ≡ plain [] = r.0 ∙ rw n refl in
      let y : at - at ≡ k = omega arith in
      let o : ◌≡◌ {A = ℕ} (at - at) 0 = omega arith in
      record {
        order = omega arith;
        from = omega arith;
        shut = omega arith;
        inside = h;
        octets = rw (e, n, o);
        text = ap (λ (j : ℕ). take j (drop at s)) y ∙ text_there;
      }

  pub value_bare : (e : ℕ) → (get_or s at 0 ≡ 34 → ⊥) → e ≡ at + run (has bare_mask) (drop at s) → e ≤ length s
      → Holds s at v (record { start = at; end = e; next = e })
  unfolding value_octets
  value_bare e n he le =
      let r = bare_read (drop at s) v k q (isnt s at 34 n) in
      let m : e ≡ at + run bare (drop at s) = he ∙ ap (λ (j : ℕ). at + j) (run_has bare_mask bare has_bare (drop at s)) in
      let z : e - at ≡ k = omega (arith, m, r.1) in
      record {
        order = omega arith;
        from = omega arith;
        shut = omega arith;
        inside = le;
        octets = rw r.0 (ap (λ (j : ℕ). take j (drop at s)) (z ∙ r.1));
        text = ap (λ (j : ℕ). take j (drop at s)) z ∙ text_there;
      }

  pub value_quoted : (e : ℕ) → get_or s at 0 ≡ 34 → e ≡ (at + 1) + run (has quoted_mask) (drop (at + 1) s)
      → Holds s at v (record { start = at + 1; end = e; next = e + 1 })
  unfolding value_octets
  value_quoted e n he =
      let r = quoted_read (drop at s) v k q (is s at 34 n) in
      let d : drop 1 (drop at s) ≡ drop (at + 1) s = drop-drop 1 at s in
      let m : e ≡ (at + 1) + run quoted (drop (at + 1) s) = he ∙ ap (λ (j : ℕ). (at + 1) + j) (run_has quoted_mask quoted has_quoted (drop (at + 1) s)) in
      let z : k ≡ suc (run quoted (drop (at + 1) s) + 1) = rw d at r.1 in
      let c : hd (drop (run quoted (drop (at + 1) s)) (drop (at + 1) s)) ≡ 34 = rw d at r.2 in
      let i : (at + 1) + run quoted (drop (at + 1) s) < length s = inside s (at + 1) (run quoted (drop (at + 1) s)) 34 (omega arith) c in
      let y : e + 1 - at ≡ k = omega (arith, m, z) in
      let x : e - (at + 1) ≡ run quoted (drop (at + 1) s) = omega (arith, m) in
      record {
        order = omega (arith, m);
        from = omega (arith, m);
        shut = omega arith;
        inside = omega (arith, m, i);
        octets = rw (r.0, d) (ap (λ (j : ℕ). take j (drop (at + 1) s)) x);
        text = ap (λ (j : ℕ). take j (drop at s)) y ∙ text_there;
      }

-- a parameter that was read
pub after_ends : (c : ℕ) → ends c ≡ true → AfterParam c
unfolding ends
after_ends c h = go (eqb c 59) (eqb c 58) refl refl h
  where
    go : (a b : Bool) → eqb c 59 ≡ a → eqb c 58 ≡ b → a || b ≡ true → AfterParam c
    go true b e f h = subst AfterParam (sym (eqb-true c 59 e)) semicolon
    go false true e f h = subst AfterParam (sym (eqb-true c 58 f)) colon
    go false false e f h = clash cc

pub param_count : (l : List ℕ) (p : Param) (k : ℕ) → param l ≡ got p k → length (param_text p) ≡ k
param_count l p k h =
    param_parts l p k h (λ n i w e v stop.
    let s = param_sound l p k h in
    let c = ap param s.1 ∙ param_complete p (drop k l) s.0 (after_ends _ stop) in
    let r : got p (length (param_text p)) ≡ got p k = sym c ∙ h in
    cc)

pub param_there : (s : List ℕ) (at end : ℕ) (p : ParamAt s at end) → take (end - at) (drop at s) ≡ param_text p.it
param_there s at end p =
    let z : end - at ≡ p.count = omega (arith, p.ends) in
    ap (λ (j : ℕ). take j (drop at s)) z ∙ ap (take p.count) (param_sound (drop at s) p.it p.count p.read).1
    ∙ take_at (param_text p.it) (drop p.count (drop at s)) p.count (param_count (drop at s) p.it p.count p.read)

-- room for all of it
pub whole_fits : (s : List ℕ) (at end : ℕ) (p : ParamAt s at end) → end ≤ length s → (d : List ℕ) → length (59 ∷ param_text p.it) ≤ length d
    → (at ≤ end) × (end ≤ length s) × (end - at + 1 ≤ length d)
whole_fits s at end p h d f =
    let n = param_count (drop at s) p.it p.count p.read in
    (omega (arith, p.ends), h, omega (arith, n, p.ends, f))
