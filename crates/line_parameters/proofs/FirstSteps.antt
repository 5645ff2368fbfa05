-- The place of a value and the walk over parameters, at a place of a line, by what the code tests there. Assumes nothing.
use mathlib.Core.Path.{◌≡◌, refl, sym, ap, ◌∙◌}
use mathlib.Core.Bool.{true, false}
use mathlib.Core.List.{List}
use Prim.Native.Nat.{ℕ, zero, suc, ◌+◌, ◌-◌, ◌<◌, ◌≤◌}
use native.Mathlib.Nat.{add-zero, not-suc-le-zero}
use native.Mathlib.Numerals.{sub-one}
use native.Mathlib.Omega.{arith}
use lib.Dec.{eqb}
use lib.ListN.{length, get_or, take, drop, drop_of_length-le}
use lib.Seq.{drop-drop, length-take-le}
use Rattle.octets.specs.Pick.{pick}
use Rattle.octets.specs.Classes.{run, has, named, quoted, bare, bare_mask, name_mask, quoted_mask}
use Rattle.octets.specs.Cases.{same}
use Rattle.octets.proofs.Runs.{run_has}
use Rattle.octets.proofs.Masks.{has_named, has_bare, has_quoted}
use Rattle.line_parser.specs.Parse.{got, bad, hd}
use Rattle.line_parser.specs.Grammar.{Value, plain, in_quotes, Param}
use Rattle.line_parser.specs.Rule.{closing, value, param}
use Rattle.line_parameters.specs.First.{span_of, find_first, spanned}
use Rattle.line_parameters.specs.First.{Between, Nothing}
use Rattle.line_parser.proofs.ParseLaws.{guard_inv, pick_inv}
use Rattle.line_parser.proofs.PartLaws.{run_le, word_taken, param_parts}
use Rattle.line_parser.proofs.Steps.{is, isnt, inside}

-- the place of a value
pub spanned_value : (at : ℕ) (l : List ℕ) (v : Value) (k : ℕ) → value l ≡ got v k → spanned at l ≡ span_of at v
unfolding spanned value closing
spanned_value at l v k h =
    pick_inv (eqb (hd l) 34) _ _ h
    (λ t q. guard_inv (eqb (hd (drop (run quoted (drop 1 l)) (drop 1 l))) 34) 42 _ q (λ t₁ q₁.
    let ea : v ≡ in_quotes (take (run quoted (drop 1 l)) (drop 1 l)) = cc in
    rw (ea, t, length-take-le (run quoted (drop 1 l)) (drop 1 l) (run_le quoted (drop 1 l)))))
    (λ t q.
    let ea : v ≡ plain (take (run bare l) l) = cc in
    rw (ea, t, length-take-le (run bare l) l (run_le bare l)))

module _ (s : List ℕ) (at : ℕ) where
  pub spanned_none : length s ≤ at → spanned at (drop at s) ≡ Between at at
  unfolding spanned run
  spanned_none h = rw (drop_of_length-le s h, add-zero at)

  pub spanned_bare : (e : ℕ) → (get_or s at 0 ≡ 34 → ⊥) → e ≡ at + run (has bare_mask) (drop at s) → spanned at (drop at s) ≡ Between at e
  unfolding spanned
  spanned_bare e q h = rw (isnt s at 34 q, h, run_has bare_mask bare has_bare (drop at s))

  pub spanned_quoted : (e : ℕ) → get_or s at 0 ≡ 34 → e ≡ at + 1 + run (has quoted_mask) (drop (at + 1) s) → spanned at (drop at s) ≡ Between (at + 1) e
  unfolding spanned
  spanned_quoted e q h = rw (is s at 34 q, h, run_has quoted_mask quoted has_quoted (drop (at + 1) s), drop-drop 1 at s)

-- one turn of the walk
module _ (name s : List ℕ) (at : ℕ) where
  pub first_bad : (n x : ℕ) → get_or s at 0 ≡ 59 → param (drop (at + 1) s) ≡ bad x → find_first name at n (drop at s) ≡ Nothing
  unfolding find_first
  first_bad zero x h q = refl
  first_bad (suc n) x h q =
      let w : param (drop 1 (drop at s)) ≡ bad x = rw drop-drop q in
      rw (is s at 59 h, w)

  pub first_got : (n : ℕ) (p : Param) (k : ℕ) → 0 < n → get_or s at 0 ≡ 59 → param (drop (at + 1) s) ≡ got p k
      → find_first name at n (drop at s) ≡ pick (same p.name name) (span_of (at + 1 + length p.name + 1) p.first)
      (find_first name (at + 1 + k) (n - 1) (drop (at + 1 + k) s))
  unfolding find_first
  first_got zero p k pos h q = absurd (not-suc-le-zero pos)
  first_got (suc n) p k pos h q =
      let w : param (drop 1 (drop at s)) ≡ got p k = rw drop-drop q in
      rw (is s at 59 h, w, sub-one, drop-drop 1 at s, drop-drop k (at + 1) s)

  pub first_none : (n : ℕ) → (get_or s at 0 ≡ 59 → ⊥) → find_first name at n (drop at s) ≡ Nothing
  unfolding find_first
  first_none zero h = refl
  first_none (suc n) h = rw (isnt s at 59 h)

-- the name of an accepted parameter ends where the run of its octets does, and its first value stands after the `=`
pub record NameEnd (s : List ℕ) (at : ℕ) (p : Param) (e : ℕ) : Type 0 where
  pub there : e ≡ at + length p.name
  pub octets : take (e - at) (drop at s) ≡ p.name
  pub within_line : e < length s
  pub first : spanned (e + 1) (drop (e + 1) s) ≡ span_of (e + 1) p.first

pub name_end_lem : (s : List ℕ) (at : ℕ) (p : Param) (k e : ℕ) → param (drop at s) ≡ got p k → e ≡ at + run (has name_mask) (drop at s) → NameEnd s at p e
name_end_lem s at p k e h he =
    param_parts (drop at s) p k h (λ n i w eq v stop.
    let a = word_taken 41 (drop at s) p.name n w in
    let m : run (has name_mask) (drop at s) ≡ run named (drop at s) = run_has name_mask named has_named (drop at s) in
    let en : e ≡ at + n = omega arith in
    let sub : e - at ≡ n = omega arith in
    let rest : drop 1 (drop n (drop at s)) ≡ drop (e + 1) s =
    ap (drop 1) (drop-drop n at s) ∙ drop-drop 1 (at + n) s ∙ ap (λ (i : ℕ). drop (i + 1) s) (sym en) in
    record {
      there = omega arith;
      octets = rw sub (sym a.octets);
      within_line = rw en (inside s at n 61 (omega arith) eq);
      first = ap (spanned (e + 1)) (sym rest) ∙ spanned_value (e + 1) (drop 1 (drop n (drop at s))) p.first i v;
    })

module _ (name s : List ℕ) (at n : ℕ) (pos : 0 < n) (h : get_or s at 0 ≡ 59) (p : Param) (k : ℕ) (q : param (drop (at + 1) s) ≡ got p k)
    (e : ℕ) (w : NameEnd s (at + 1) p e) where
  pub first_hit : same (take (e - (at + 1)) (drop (at + 1) s)) name ≡ true → find_first name at n (drop at s) ≡ spanned (e + 1) (drop (e + 1) s)
  first_hit t =
      let u : same p.name name ≡ true = ap (λ (x : List ℕ). same x name) (sym w.octets) ∙ t in
      let g = first_got name s at n p k pos h q in
      g ∙ rw u (ap (λ (i : ℕ). span_of (i + 1) p.first) (sym w.there) ∙ sym w.first)

  pub first_on : same (take (e - (at + 1)) (drop (at + 1) s)) name ≡ false
      → find_first name at n (drop at s) ≡ find_first name (at + 1 + k) (n - 1) (drop (at + 1 + k) s)
  first_on t =
      let u : same p.name name ≡ false = ap (λ (x : List ℕ). same x name) (sym w.octets) ∙ t in
      first_got name s at n p k pos h q ∙ rw u
