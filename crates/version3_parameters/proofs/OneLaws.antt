-- The values of a parameter, as they are written, are 1 alone exactly where it has one value, and that is 1, quotes off. Assumes nothing.
use mathlib.Core.Path.{◌≡◌, refl, sym, ap, ◌∙◌}
use mathlib.Core.Bool.{Bool, and-true, true, false, not, ◌&&◌, ◌||◌}
use mathlib.Core.List.{List, [], ◌∷◌, ◌++◌}
use Prim.Native.Nat.{ℕ, suc, ◌≤◌}
use native.Mathlib.Omega.{arith}
use lib.Dec.{eqb}
use lib.ListN.{length, get_or, length-append}
use borrow.Author.Tests.{ne_eqb, eqb-true}
use Rattle.std.specs.Prelude.{nat_eq}
use Rattle.std.specs.Cmp.Lexicographic.{pointwise, same_text, other_text}
use Rattle.octets.specs.Pick.{pick}
use Rattle.octets.specs.Classes.{quoted, bare, valued}
use Rattle.line_parser.specs.Grammar.{Value, plain, in_quotes, GoodValue, Each, led, value_text}
use Rattle.line_parameters.specs.First.{value_octets}
use Rattle.version3_parameters.specs.Params.{one_text, one_value}
use Rattle.version3_parameters.specs.Places.{one_written}

-- a list that starts with neither 1 nor a quote mark, or with an octet that is no quote mark and has another behind it
other_start : (x : ℕ) (r : List ℕ) → eqb x 49 ≡ false → eqb x 34 ≡ false → false ≡ one_written (x ∷ r)
unfolding one_written
other_start x r a b = by (eqb (suc (length r)) 1) (eqb (suc (length r)) 3)
  where
    by : (t u : Bool) → false ≡ pick t (eqb x 49) (u && (eqb x 34 && (eqb (get_or (x ∷ r) 1 0) 49 && eqb (get_or (x ∷ r) 2 0) 34)))
    by true u = sym a
    by false true = sym (rw b)
    by false false = refl

two_start : (x y : ℕ) (r : List ℕ) → eqb x 34 ≡ false → false ≡ one_written (x ∷ y ∷ r)
unfolding one_written
two_start x y r b = by (eqb (suc (suc (length r))) 3) ∙ sym (rw (ne_eqb (suc (suc (length r))) 1 (λ e. omega arith)))
  where
    by : (u : Bool) → false ≡ (u && (eqb x 34 && (eqb y 49 && eqb (get_or (x ∷ y ∷ r) 2 0) 34)))
    by true = sym (rw b)
    by false = refl

empty_quotes : (r : List ℕ) → false ≡ one_written (34 ∷ 34 ∷ r)
unfolding one_written
empty_quotes r = by (eqb (suc (suc (length r))) 3) ∙ sym (rw (ne_eqb (suc (suc (length r))) 1 (λ e. omega arith)))
  where
    by : (u : Bool) → false ≡ (u && false)
    by true = refl
    by false = refl

long : (l : List ℕ) → 4 ≤ length l → false ≡ one_written l
unfolding one_written
long l h = sym (rw (ne_eqb (length l) 1 (λ e. omega arith), ne_eqb (length l) 3 (λ e. omega arith)))

-- the test of the code, of a list that is not 1 alone
one_neither : (l : List ℕ) → (l ≡ 49 ∷ [] → ⊥) → (l ≡ 34 ∷ 49 ∷ 34 ∷ [] → ⊥) → false ≡ one_written l
unfolding one_written
one_neither [] n m = refl
one_neither (x ∷ []) n m = sym (ne_eqb x 49 (λ e. n (ap (λ (a : ℕ). a ∷ []) e)))
one_neither (x ∷ y ∷ []) n m = refl
one_neither (x ∷ y ∷ z ∷ []) n m = go (eqb x 34) (eqb y 49) (eqb z 34) refl refl refl
  where
    go : (t u v : Bool) → eqb x 34 ≡ t → eqb y 49 ≡ u → eqb z 34 ≡ v → false ≡ (t && (u && v))
    go true true true e f g = absurd (m (rw (eqb-true x 34 e, eqb-true y 49 f, eqb-true z 34 g) refl))
    go true true false e f g = refl
    go true false v e f g = refl
    go false u v e f g = refl
one_neither (x ∷ y ∷ z ∷ w ∷ r) n m = long (x ∷ y ∷ z ∷ w ∷ r) (omega arith)

pub one_quoted : (l : List ℕ) → (l ≡ 49 ∷ [] → ⊥) → pointwise nat_eq l (34 ∷ 49 ∷ 34 ∷ []) ≡ one_written l
unfolding one_written
one_quoted l n = go (pointwise nat_eq l (34 ∷ 49 ∷ 34 ∷ [])) refl
  where
    go : (t : Bool) → t ≡ pointwise nat_eq l (34 ∷ 49 ∷ 34 ∷ []) → pointwise nat_eq l (34 ∷ 49 ∷ 34 ∷ []) ≡ one_written l
    go true e = sym e ∙ sym (ap one_written (same_text l _ e))
    go false e = sym e ∙ one_neither l n (other_text l _ e)

long_text : (x y : ℕ) (xs : List ℕ) → false ≡ one_text (x ∷ y ∷ xs)
unfolding one_text
long_text x y xs = sym (rw (ne_eqb (suc (suc (length xs))) 1 (λ e. omega arith)))

bare_quote : (c : ℕ) → bare c ≡ true → eqb c 34 ≡ false
unfolding bare quoted
bare_quote c h = go (valued c) (eqb c 34) (eqb c 44 || (eqb c 58 || eqb c 59)) h
  where
    go : (v q o : Bool) → (v && not q) && not o ≡ true → q ≡ false
    go true true o h = cc
    go true false o h = refl
    go false true o h = cc
    go false false o h = refl

-- the law
pub one_law : (v : Value) (vs : List Value) → GoodValue v → one_written (value_text v ++ led 44 value_text vs) ≡ one_value vs v
unfolding GoodValue value_text led value_octets Each one_text one_written
one_law (plain []) [] g = refl
one_law (plain []) (u ∷ us) g = sym (other_start 44 (value_text u ++ led 44 value_text us) refl refl)
one_law (plain (x ∷ [])) [] g = refl
one_law (plain (x ∷ y ∷ xs)) [] g = sym (two_start x y (xs ++ []) (bare_quote x g.0)) ∙ long_text x y xs
one_law (plain (x ∷ [])) (u ∷ us) g = sym (two_start x 44 (value_text u ++ led 44 value_text us) (bare_quote x g.0))
one_law (plain (x ∷ y ∷ xs)) (u ∷ us) g = sym (two_start x y (xs ++ led 44 value_text (u ∷ us)) (bare_quote x g.0))
one_law (in_quotes []) [] g = sym (empty_quotes [])
one_law (in_quotes []) (u ∷ us) g = sym (empty_quotes (led 44 value_text (u ∷ us)))
one_law (in_quotes (x ∷ [])) [] g = and-true (eqb x 49)
one_law (in_quotes (x ∷ [])) (u ∷ us) g = sym (long (34 ∷ x ∷ 34 ∷ 44 ∷ (value_text u ++ led 44 value_text us)) (omega arith))
one_law (in_quotes (x ∷ y ∷ xs)) [] g = sym (long (34 ∷ x ∷ y ∷ ((xs ++ 34 ∷ []) ++ [])) (omega (arith, length-append (xs ++ 34 ∷ []) [], length-append xs (34 ∷ [])))) ∙ long_text x y xs
one_law (in_quotes (x ∷ y ∷ xs)) (u ∷ us) g =
    sym (long (34 ∷ x ∷ y ∷ ((xs ++ 34 ∷ []) ++ led 44 value_text (u ∷ us))) (omega (arith, length-append (xs ++ 34 ∷ []) (led 44 value_text (u ∷ us)), length-append xs (34 ∷ []))))
