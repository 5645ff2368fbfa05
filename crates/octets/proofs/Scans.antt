-- The laws of `scan` and `gather` at a place of a list: where the steps stop, go on and end. Every scanner's loop cites these.
-- Assumes nothing.
use mathlib.Core.Path.{◌≡◌, refl, sym, ap, ◌∙◌}
use mathlib.Core.List.{List, [], ◌∷◌, ◌++◌}
use Prim.Native.Nat.{ℕ, zero, suc, pred, ◌+◌, ◌<◌, ◌≤◌}
use native.Mathlib.Nat.{add-zero, zero-add, suc-add, le_of_suc-le-suc, not-suc-le-zero}
use native.Mathlib.Omega.{arith}
use lib.ListN.{length, drop, drop_of_length-le, length-drop}
use lib.Seq.{drop-drop}
use Rattle.octets.specs.Scan.{after, scan, gather}

skip : (f : List ℕ → ℕ) (l : List ℕ) (k : ℕ) → k ≤ length l → scan f l k ≡ k + scan f (drop k l) 0
unfolding scan
skip f l zero h = sym (zero-add (scan f l 0))
skip f [] (suc k) h = absurd (not-suc-le-zero h)
skip f (x ∷ xs) (suc k) h = ap suc (skip f xs k (le_of_suc-le-suc h)) ∙ sym (suc-add k (scan f (drop k xs) 0))

step : (f : List ℕ → ℕ) (l : List ℕ) (n : ℕ) → f l ≡ n → 1 ≤ n → n ≤ length l → scan f l 0 ≡ n + scan f (drop n l) 0
unfolding scan
step f l zero e pos h = absurd (not-suc-le-zero pos)
step f [] (suc m) e pos h = absurd (not-suc-le-zero h)
step f (x ∷ xs) (suc m) e pos h =
    ap (λ (k : ℕ). after k (scan f xs)) e ∙ ap suc (skip f xs m (le_of_suc-le-suc h)) ∙ sym (suc-add m (scan f (drop m xs) 0))

stop : (f : List ℕ → ℕ) (l : List ℕ) → f l ≡ 0 → scan f l 0 ≡ 0
unfolding scan
stop f [] e = refl
stop f (x ∷ xs) e = ap (λ (k : ℕ). after k (scan f xs)) e

module _ (f : List ℕ → ℕ) (s : List ℕ) (i : ℕ) where
  pub scan_stop : f (drop i s) ≡ 0 → i + scan f (drop i s) 0 ≡ i
  scan_stop e = rw (stop f (drop i s) e, add-zero)

  pub scan_step : (n : ℕ) → f (drop i s) ≡ n → 1 ≤ n → i + n ≤ length s → i + scan f (drop i s) 0 ≡ (i + n) + scan f (drop (i + n) s) 0
  scan_step n e pos h =
      let k : n ≤ length (drop i s) = rw (length-drop i s) (omega arith) in
      rw (step f (drop i s) n e pos k, drop-drop n i s) (omega arith)

  pub scan_end : length s ≤ i → i + scan f (drop i s) 0 ≡ i
  unfolding scan
  scan_end h = rw (drop_of_length-le s h, add-zero)

pass : (n : List ℕ → ℕ) (e : List ℕ → List ℕ) (l : List ℕ) (k : ℕ) → gather n e l k ≡ gather n e (drop k l) 0
unfolding gather
pass n e l zero = refl
pass n e [] (suc k) = refl
pass n e (x ∷ xs) (suc k) = pass n e xs k

first : (n : List ℕ → ℕ) (e : List ℕ → List ℕ) (l : List ℕ) (m : ℕ) → 1 ≤ length l → n l ≡ m → 1 ≤ m
    → gather n e l 0 ≡ e l ++ gather n e (drop m l) 0
unfolding gather
first n e l zero h q pos = absurd (not-suc-le-zero pos)
first n e [] (suc m) h q pos = absurd (not-suc-le-zero h)
first n e (x ∷ xs) (suc m) h q pos =
    ap (λ (k : ℕ). e (x ∷ xs) ++ gather n e xs (pred k)) q ∙ ap (λ (l : List ℕ). e (x ∷ xs) ++ l) (pass n e xs m)

module _ (n : List ℕ → ℕ) (e : List ℕ → List ℕ) (s : List ℕ) (i : ℕ) where
  pub gather_step : (m : ℕ) → i < length s → n (drop i s) ≡ m → 1 ≤ m
      → gather n e (drop i s) 0 ≡ e (drop i s) ++ gather n e (drop (i + m) s) 0
  gather_step m h q pos =
      let k : 1 ≤ length (drop i s) = rw (length-drop i s) (omega arith) in
      first n e (drop i s) m k q pos ∙ ap (λ (l : List ℕ). e (drop i s) ++ gather n e l 0) (drop-drop m i s)

  pub gather_end : length s ≤ i → gather n e (drop i s) 0 ≡ []
  unfolding gather
  gather_end h = rw (drop_of_length-le s h)

after_le : (n m : ℕ) (f : ℕ → ℕ) → ((k : ℕ) → f k ≤ m) → after n f ≤ suc m
after_le zero m f h = omega arith
after_le (suc n) m f h = omega (arith, h n)

-- the steps never lead past the end
pub scan_le : (f : List ℕ → ℕ) (l : List ℕ) (k : ℕ) → scan f l k ≤ length l
unfolding scan
scan_le f [] k = omega arith
scan_le f (x ∷ xs) zero = after_le (f (x ∷ xs)) (length xs) (scan f xs) (scan_le f xs)
scan_le f (x ∷ xs) (suc k) = omega (arith, scan_le f xs k)
