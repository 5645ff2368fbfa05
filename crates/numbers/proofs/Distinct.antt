-- No two refusals, properties or kinds have one number: by computing a test of each list. Assumes nothing.
use Prim.Native.Nat.{ℕ, zero, suc, ◌<◌}
use mathlib.Core.Path.{◌≡◌, refl, sym}
use mathlib.Core.Bool.{Bool, true, false}
use mathlib.Core.List.{List, [], ◌∷◌}
use native.Mathlib.Omega.{arith}
use lib.Dec.{eqb}
use lib.ListN.{length, get_or}
use borrow.Author.Tests.{eqb-false}
use Rattle.numbers.specs.Refusals.{refusals}
use Rattle.numbers.specs.Properties.{properties}
use Rattle.numbers.specs.Kinds.{kinds}
use Rattle.numbers.specs.Distinct.{NoTwo, Distinct}

-- both hold; the second holds and the first does not
abbrev both : Bool → Bool → Bool
both true b = b
both false b = false

abbrev neither : Bool → Bool → Bool
neither true b = false
neither false b = b

-- x is none of a list
unfoldable differs : ℕ → List ℕ → Bool
differs x [] = true
differs x (y ∷ ys) = neither (eqb x y) (differs x ys)

unfoldable distinct : List ℕ → Bool
distinct [] = true
distinct (x ∷ xs) = both (differs x xs) (distinct xs)

both_first : (a b : Bool) → both a b ≡ true → a ≡ true
both_first true b e = refl
both_first false b e = e

both_second : (a b : Bool) → both a b ≡ true → b ≡ true
both_second true b e = e
both_second false b e = let z : ◌≡◌ {A = ℕ} 0 1 = cc in absurd (omega arith)

neither_first : (a b : Bool) → neither a b ≡ true → a ≡ false
neither_first true b e = sym e
neither_first false b e = refl

neither_second : (a b : Bool) → neither a b ≡ true → b ≡ true
neither_second true b e = let z : ◌≡◌ {A = ℕ} 0 1 = cc in absurd (omega arith)
neither_second false b e = e

other_at : (x : ℕ) (ys : List ℕ) → differs x ys ≡ true → (j : ℕ) → j < length ys → x ≡ get_or ys j 0 → ⊥
unfolding differs
other_at x [] t j h e = omega arith
other_at x (y ∷ ys) t zero h e = eqb-false x y (neither_first (eqb x y) (differs x ys) t) e
other_at x (y ∷ ys) t (suc j) h e = other_at x ys (neither_second (eqb x y) (differs x ys) t) j (omega arith) e

no_two : (xs : List ℕ) → distinct xs ≡ true → NoTwo xs
unfolding distinct
no_two [] t i j l h e = omega arith
no_two (x ∷ xs) t zero zero l h e = omega arith
no_two (x ∷ xs) t zero (suc j) l h e = other_at x xs (both_first (differs x xs) (distinct xs) t) j (omega arith) e
no_two (x ∷ xs) t (suc i) zero l h e = omega arith
no_two (x ∷ xs) t (suc i) (suc j) l h e = no_two xs (both_second (differs x xs) (distinct xs) t) i j (omega arith) (omega arith) e

refusals_computed : distinct refusals ≡ true
unfolding differs distinct
refusals_computed = refl

properties_computed : distinct properties ≡ true
unfolding differs distinct
properties_computed = refl

kinds_computed : distinct kinds ≡ true
unfolding differs distinct
kinds_computed = refl

pub distinct_numbers : Distinct
distinct_numbers =
    record {
      refusals = no_two refusals refusals_computed;
      properties = no_two properties properties_computed;
      kinds = no_two kinds kinds_computed;
    }
