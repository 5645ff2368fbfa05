-- The laws of `all_in` and `alike`, and of a span of octets. Assumes nothing.
use mathlib.Core.Path.{◌≡◌, refl, sym, ◌∙◌}
use mathlib.Core.Bool.{Bool, true, false, ◌&&◌, and-false}
use mathlib.Core.List.{List, [], ◌∷◌}
use Prim.Native.Nat.{ℕ, zero, suc, ◌+◌, ◌≤◌, ◌<◌}
use native.Mathlib.Nat.{le_of_suc-le-suc, not-suc-le-zero}
use native.Mathlib.Numerals.{add-one}
use native.Mathlib.Omega.{arith}
use lib.Dec.{leb, eqb}
use lib.ListN.{length, get_or, drop, drop_of_length-le}
use lib.Seq.{drop-cons}
use borrow.Author.Tests.{eq-eqb, eqb-true, le-leb, lt-leb}
use Rattle.std.specs.Bool.{MatchBool}
use Rattle.std.specs.List.{AllWithin, HoldsAt}
use Rattle.octets.specs.Classes.{within}
use Rattle.octets.proofs.Bools.{and_both}
use Rattle.octets.specs.Counts.{all_in}
use Rattle.program_numbers.specs.Alike.{alike}

module _ (lo hi b : ℕ) where
  pub below : b < lo → within lo hi b ≡ false
  below h = rw (lt-leb lo b h)

  pub above : hi < b → within lo hi b ≡ false
  above h = rw (lt-leb b hi h) (and-false (leb lo b))

  pub inside : lo ≤ b → b ≤ hi → within lo hi b ≡ true
  inside g h = rw (le-leb lo b g, le-leb b hi h)

module _ (p : ℕ → Bool) (s : List ℕ) (i : ℕ) where
  pub all_at : i < length s → all_in p (drop i s) ≡ (p (get_or s i 0) && all_in p (drop (i + 1) s))
  unfolding all_in
  all_at h = rw (add-one, drop-cons s i 0)

  pub all_stop : i < length s → p (get_or s i 0) ≡ false → all_in p (drop i s) ≡ false
  all_stop h e = rw (all_at h, e)

  pub all_step : i < length s → p (get_or s i 0) ≡ true → all_in p (drop i s) ≡ all_in p (drop (i + 1) s)
  all_step h e = rw (all_at h, e)

  pub all_end : length s ≤ i → all_in p (drop i s) ≡ true
  unfolding all_in
  all_end h = rw (drop_of_length-le s h)

-- where all pass, each does
pub each : (p : ℕ → Bool) (s : List ℕ) (i : ℕ) → all_in p s ≡ true → i < length s → p (get_or s i 0) ≡ true
unfolding all_in
each p [] i e h = absurd (not-suc-le-zero h)
each p (x ∷ xs) zero e h = (and_both (p x) (all_in p xs) e).0
each p (x ∷ xs) (suc i) e h = each p xs i (and_both (p x) (all_in p xs) e).1 (le_of_suc-le-suc h)

-- and where each does, all pass
every : (p : ℕ → Bool) (s : List ℕ) → ((i : ℕ) → i < length s → p (get_or s i 0) ≡ true) → all_in p s ≡ true
unfolding all_in
every p [] h = refl
every p (x ∷ xs) h = rw (h 0 (omega arith)) (every p xs (λ i g. h (suc i) (omega arith)))

-- the answer of an iterator's `all`
pub told_all : (p : ℕ → Bool) (s : List ℕ) (r : Bool)
    → MatchBool r (AllWithin (λ x. p x ≡ true) s 0 (length s)) ((k : ℕ) × (k < length s) × HoldsAt (λ x. p x ≡ false) s k)
    → r ≡ all_in p s
told_all p s true h = sym (every p s (λ i g. h i 0 (omega arith) g))
told_all p s false (k, g, h) = missed (all_in p s) (λ e. each p s k e g)
  where
    missed : (t : Bool) → (t ≡ true → p (get_or s k 0) ≡ true) → false ≡ t
    missed true f = sym (h 0) ∙ f refl
    missed false f = refl

pub alike_self : (a : List ℕ) → alike a a ≡ true
unfolding alike
alike_self [] = refl
alike_self (x ∷ xs) = rw (eq-eqb x x refl) (alike_self xs)

pub alike_same : (a b : List ℕ) → alike a b ≡ true → a ≡ b
unfolding alike
alike_same [] [] e = refl
alike_same [] (y ∷ ys) e = let z : ◌≡◌ {A = ℕ} 0 1 = cc in absurd (omega arith)
alike_same (x ∷ xs) [] e = let z : ◌≡◌ {A = ℕ} 0 1 = cc in absurd (omega arith)
alike_same (x ∷ xs) (y ∷ ys) e =
    let here = eqb-true x y (and_both (eqb x y) (alike xs ys) e).0 in
    let later = alike_same xs ys (and_both (eqb x y) (alike xs ys) e).1 in
    cc

-- a test that tells whether two lists are equal is `alike`
pub told : (r : Bool) (a b : List ℕ) → (r ≡ true → a ≡ b) × (a ≡ b → r ≡ true) → r ≡ alike a b
told true a b h = sym (rw (h.0 refl) (alike_self b))
told false a b h = other (alike a b) (λ e. h.1 (alike_same a b e))
  where
    other : (t : Bool) → (t ≡ true → false ≡ true) → false ≡ t
    other true f = f refl
    other false f = refl
