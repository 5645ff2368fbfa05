-- The pieces of a line: what one octet does, joined they are the line, and the first fits its room. Assumes nothing.
use mathlib.Core.Path.{◌≡◌, refl, ap}
use mathlib.Core.Bool.{Bool, true, false}
use mathlib.Core.List.{List, [], ◌∷◌, ◌++◌, flatten}
use Prim.Native.Nat.{ℕ, suc, pred, ◌≤◌}
use native.Mathlib.Omega.{arith}
use lib.Dec.{ltb}
use lib.ListN.{length}
use borrow.Author.Tests.{ltb-true, ltb-false, lt-ltb, le-ltb}
use Rattle.octets.specs.Pick.{pick}
use Rattle.utf8.specs.Characters.{tail, char_length}
use Rattle.utf8.proofs.Chains.{Chars, end, start, inner, tail_none}
use Rattle.folder_line.specs.Pieces.{over, first, later}

-- one octet: the two cases
module _ (x : ℕ) (xs : List ℕ) (r : ℕ) where
  pub first_over : over (x ∷ xs) r ≡ true → first (x ∷ xs) r ≡ []
  unfolding first
  first_over e = rw e

  pub first_goes : over (x ∷ xs) r ≡ false → first (x ∷ xs) r ≡ x ∷ first xs (pred r)
  unfolding first
  first_goes e = rw e

  pub later_over : over (x ∷ xs) r ≡ true → later (x ∷ xs) r ≡ (x ∷ first xs 73) ∷ later xs 73
  unfolding later
  later_over e = rw e

  pub later_goes : over (x ∷ xs) r ≡ false → later (x ∷ xs) r ≡ later xs (pred r)
  unfolding later
  later_goes e = rw e

  -- a character of m + 1 octets starts here
  pub over_yes : (m : ℕ) → char_length (x ∷ xs) ≡ suc m → r ≤ m → over (x ∷ xs) r ≡ true
  unfolding over
  over_yes m e h = rw e (lt-ltb r (suc m) (omega arith))

  pub over_no : (m : ℕ) → char_length (x ∷ xs) ≡ suc m → suc m ≤ r → over (x ∷ xs) r ≡ false
  unfolding over
  over_no m e h = rw e (le-ltb r (suc m) h)

  -- or none does
  pub over_tail : tail x ≡ true → over (x ∷ xs) r ≡ false
  unfolding over
  over_tail e = rw (tail_none x xs e) (le-ltb r 0 (omega arith))

-- by the room
pub data Room (m r : ℕ) : Type 0 where
  short : r ≤ m → Room m r
  roomy : suc m ≤ r → Room m r

pub room : (m r : ℕ) → Room m r
room m r = go (ltb m r) refl
  where
    go : (t : Bool) → ltb m r ≡ t → Room m r
    go true e = roomy (omega (arith, ltb-true m r e))
    go false e = short (ltb-false m r e)

-- the pieces put together are the line
pub rejoin : (l : List ℕ) (r : ℕ) → first l r ++ flatten (later l r) ≡ l
unfolding first later flatten
rejoin [] r = refl
rejoin (x ∷ xs) r = go (over (x ∷ xs) r) (rejoin xs 73) (rejoin xs (pred r))
  where
    go : (t : Bool) → first xs 73 ++ flatten (later xs 73) ≡ xs → first xs (pred r) ++ flatten (later xs (pred r)) ≡ xs
        → pick t [] (x ∷ first xs (pred r)) ++ flatten (pick t ((x ∷ first xs 73) ∷ later xs 73) (later xs (pred r))) ≡ x ∷ xs
    go true a b = ap (λ (q : List ℕ). x ∷ q) a
    go false a b = ap (λ (q : List ℕ). x ∷ q) b

-- the first piece fits
pub first_fits : {p : ℕ → Bool} {k : ℕ} {l : List ℕ} → Chars p k l → (r : ℕ) → k ≤ r → length (first l r) ≤ r
unfolding first
first_fits end r h = omega arith
first_fits (start {x} {m} {xs} a e c) r h = go (room m r) (λ f. first_fits c (pred r) f)
  where
    go : Room m r → (m ≤ pred r → length (first xs (pred r)) ≤ pred r) → length (first (x ∷ xs) r) ≤ r
    go (short p) f = rw (first_over x xs r (over_yes x xs r m e p)) (omega arith)
    go (roomy p) f = rw (first_goes x xs r (over_no x xs r m e p)) (omega (arith, f (omega arith)))
first_fits (inner {x} {k} {xs} e c) r h =
    rw (first_goes x xs r (over_tail x xs r e)) (omega (arith, first_fits c (pred r) (omega arith)))
