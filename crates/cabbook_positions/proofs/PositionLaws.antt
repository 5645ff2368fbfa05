-- Counting octets one by one, and going back place by place. Assumes nothing.
use mathlib.Core.Path.{◌≡◌, refl}
use mathlib.Core.Bool.{Bool, true, false}
use mathlib.Core.List.{List, [], ◌∷◌}
use Prim.Native.Nat.{ℕ, zero, suc, ◌+◌, ◌-◌, ◌<◌, ◌≤◌}
use native.Mathlib.Omega.{arith}
use lib.ListN.{length}
use Rattle.std.specs.Prelude.{count_by, cond}
use Rattle.std.proofs.lemmas.List.Recursion.{is_count_by}
use Rattle.octets.specs.Pick.{pick}
use Rattle.cabbook_positions.specs.Positions.{count, back_to}

counted : (b : Bool) (n : ℕ) → pick b 1 0 + n ≡ cond b (1 + n) n
counted true n = refl
counted false n = omega arith

-- counting is the library's
pub count_is : (p : ℕ → Bool) (s : List ℕ) → count p s ≡ count_by p s
unfolding count
count_is p s = is_count_by (count p) p refl (λ x xs. counted (p x) (count p xs)) s

one_more : (b : Bool) (n m : ℕ) → n ≤ m → pick b 1 0 + n ≤ suc m
one_more true n m h = omega arith
one_more false n m h = omega arith

-- no more octets pass than there are
pub count_le : (p : ℕ → Bool) (s : List ℕ) → count p s ≤ length s
unfolding count
count_le p [] = omega arith
count_le p (x ∷ xs) = one_more (p x) (count p xs) (length xs) (count_le p xs)

pub back_here : (p : ℕ → Bool) (i : ℕ) → 0 < i → p i ≡ true → back_to p i ≡ i
unfolding back_to
back_here p zero h e = absurd (omega arith)
back_here p (suc k) h e = rw e

pub back_on : (p : ℕ → Bool) (i : ℕ) → 0 < i → p i ≡ false → back_to p i ≡ back_to p (i - 1)
unfolding back_to
back_on p zero h e = absurd (omega arith)
back_on p (suc k) h e =
    let f : suc k - 1 ≡ k = omega arith in
    rw (e, f)

pub back_end : (p : ℕ → Bool) (i : ℕ) → i ≤ 0 → back_to p i ≡ 0
unfolding back_to
back_end p zero h = refl
back_end p (suc k) h = absurd (omega arith)
