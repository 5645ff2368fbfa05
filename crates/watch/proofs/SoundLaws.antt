-- States that can be worked with. Assumes nothing.
use mathlib.Core.Path.{◌≡◌, refl}
use mathlib.Core.Bool.{true, false, false≢true}
use mathlib.Core.List.{List, [], ◌∷◌}
use Prim.Native.Nat.{ℕ, zero, suc, ◌+◌, ◌-◌, ◌/◌, ◌%◌, ◌<◌, ◌≤◌}
use native.Mathlib.Omega.{arith}
use native.Mathlib.Numerals.{add-one}
use lib.Dec.{ltb}
use lib.ListN.{length, get_or, take}
use borrow.Author.Tests.{ltb-true, ltb-false, lt-ltb, le-ltb}
use Rattle.octets.proofs.Bools.{by}
use Rattle.card_state.specs.Kept.{end_of, Inside}

pub end_zero : (p : ℕ) → p ≡ 0 → 0 ≡ end_of p
unfolding end_of
end_zero p e = rw e

pub end_some : (p : ℕ) → (p ≡ 0 → ⊥) → (p - 1) / 32768 + (p - 1) % 32768 ≡ end_of p
unfolding end_of
end_some zero h = absurd (h refl)
end_some (suc p) h = let e : suc p - 1 ≡ p = omega arith in rw e

-- what is not so is no true answer
pub no_way : {A : Type 0} → false ≡ true → A
no_way e = absurd (false≢true e)

pub over_by : (a b : ℕ) → a ≤ 16384 → ltb (16384 - a) b ≡ ltb 16384 (a + b)
over_by a b h =
    by (ltb 16384 (a + b))
    (λ p. rw p (lt-ltb (16384 - a) b (omega (arith, ltb-true 16384 (a + b) p))))
    (λ p. rw p (le-ltb (16384 - a) b (omega (arith, ltb-false 16384 (a + b) p))))

-- the ends of values, one by one
inside_next : (n : ℕ) (ps : List ℕ) (i : ℕ) → i < length ps → Inside n (take i ps) → end_of (get_or ps i 0) ≤ n → Inside n (take (suc i) ps)
unfolding Inside
inside_next n [] i h r e = absurd (omega arith)
inside_next n (p ∷ ps) zero h r e = (e, tt)
inside_next n (p ∷ ps) (suc i) h r e = (r.0, inside_next n ps i (omega arith) r.1 e)

pub inside_more : (n : ℕ) (ps : List ℕ) (i : ℕ) → i < length ps → Inside n (take i ps) → end_of (get_or ps i 0) ≤ n → Inside n (take (i + 1) ps)
inside_more n ps i h r e = rw (add-one i) (inside_next n ps i h r e)

pub inside_at : (n : ℕ) (ps : List ℕ) (i : ℕ) → i < length ps → Inside n ps → end_of (get_or ps i 0) ≤ n
unfolding Inside
inside_at n [] i h r = absurd (omega arith)
inside_at n (p ∷ ps) zero h r = r.0
inside_at n (p ∷ ps) (suc i) h r = inside_at n ps i (omega arith) r.1
