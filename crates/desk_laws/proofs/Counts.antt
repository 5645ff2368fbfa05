-- At how many of the first positions a test holds, and what that becomes where one position changes. Assumes nothing.
use Prim.Native.Nat.{ℕ, zero, suc, ◌+◌, ◌<◌, ◌≤◌}
use mathlib.Core.Path.{◌≡◌, refl}
use mathlib.Core.Bool.{Bool, true, false}
use native.Mathlib.Omega.{arith}
use lib.Dec.{eqb}
use borrow.Author.Tests.{eqb-true, eqb-false}
use Rattle.octets.specs.Classes.{bit}

-- at how many of the first n positions p holds
unfoldable pub count : (ℕ → Bool) → ℕ → ℕ
count p zero = 0
count p (suc n) = bit (p n) 1 + count p n

pub count_same : (p q : ℕ → Bool) (n : ℕ) → ((j : ℕ) → j < n → p j ≡ q j) → count p n ≡ count q n
unfolding count
count_same p q zero f = refl
count_same p q (suc n) f = rw (f n (omega arith), count_same p q n (λ j h. f j (omega arith)))

bit_le : (b : Bool) → bit b 1 ≤ 1
bit_le true = omega arith
bit_le false = omega arith

pub count_le : (p : ℕ → Bool) (n : ℕ) → count p n ≤ n
unfolding count
count_le p zero = omega arith
count_le p (suc n) = let x = count_le p n in let y = bit_le (p n) in omega arith

pub count_zero : (p : ℕ → Bool) (n : ℕ) → ((j : ℕ) → j < n → p j ≡ false) → count p n ≡ 0
unfolding count
count_zero p zero h = refl
count_zero p (suc n) h = let x = count_zero p n (λ j l. h j (omega arith)) in rw (h n (omega arith)) (omega arith)

pub count_full : (f : ℕ → Bool) (n : ℕ) → ((j : ℕ) → j < n → f j ≡ true) → count f n ≡ n
unfolding count
count_full f zero h = refl
count_full f (suc n) h = let x = count_full f n (λ j l. h j (omega arith)) in rw (h n (omega arith)) (omega arith)

-- at all of them, where it holds at as many
pub count_all : (p : ℕ → Bool) (n : ℕ) → count p n ≡ n → (j : ℕ) → j < n → p j ≡ true
unfolding count
count_all p zero e j h = absurd (omega arith)
count_all p (suc n) e j h =
    let l = count_le p n in
    let m = bit_le (p n) in
    go (count_all p n (omega arith) j) (last (p n) refl) (eqb j n) refl
  where
    last : (b : Bool) → p n ≡ b → p n ≡ true
    last true q = q
    last false q = let l = count_le p n in let z : bit (p n) 1 ≡ 0 = rw q in absurd (omega arith)

    go : (j < n → p j ≡ true) → p n ≡ true → (t : Bool) → eqb j n ≡ t → p j ≡ true
    go ih a true q = let w : j ≡ n = eqb-true j n q in rw w a
    go ih a false q = ih (omega (arith, eqb-false j n q))

-- g is f with i besides
pub count_more : (f g : ℕ → Bool) (n i : ℕ) → i < n → f i ≡ false → g i ≡ true → ((j : ℕ) → (j ≡ i → ⊥) → f j ≡ g j) → count g n ≡ suc (count f n)
unfolding count
count_more f g zero i l a b h = absurd (omega arith)
count_more f g (suc n) i l a b h = go (λ k. count_more f g n i k a b h) (eqb n i) refl
  where
    go : (i < n → count g n ≡ suc (count f n)) → (t : Bool) → eqb n i ≡ t → bit (g n) 1 + count g n ≡ suc (bit (f n) 1 + count f n)
    go ih true q =
        let w : n ≡ i = eqb-true n i q in
        let x : count f n ≡ count g n = count_same f g n (λ j k. h j (λ e. omega arith)) in
        let fn : f n ≡ false = rw w a in
        let gn : g n ≡ true = rw w b in
        rw (fn, gn) (omega arith)
    go ih false q =
        let w : n ≡ i → ⊥ = eqb-false n i q in
        let x = ih (omega arith) in
        rw (h n w) (omega arith)
