-- What a table has for a row: the row's own entries. Assumes nothing.
use mathlib.Core.Path.{◌≡◌, sym, ap, ◌∙◌}
use mathlib.Core.List.{List, ◌++◌}
use Prim.Native.Nat.{ℕ, zero, suc, ◌+◌, ◌*◌, ◌<◌, ◌≤◌}
use native.Mathlib.Nat.{add-zero, zero-add, zero-mul, suc-mul}
use native.Mathlib.Omega.{arith}
use lib.ListN.{length, get_or, take, drop, get_or-append}
use lib.Seq.{get_or-drop, take-append-le, drop-append-add}
use Rattle.octets.specs.Tables.{entries_from, TableOf}

-- a table of m rows of w entries each
module _ (f : ℕ → List ℕ) (w m : ℕ) (even : (j : ℕ) → j < m → length (f j) ≡ w) where
  -- behind n rows
  behind : (n i k : ℕ) → n < k → i + k ≤ m → (r : List ℕ) × (drop (n * w) (entries_from f i k) ≡ f (i + n) ++ r)
  unfolding entries_from
  behind n i zero h g = absurd (omega arith)
  behind zero i (suc k) h g = (entries_from f (suc i) k, rw (zero-mul w, add-zero i))
  behind (suc n) i (suc k) h g =
      let rest = behind n (suc i) k (omega arith) (omega arith) in
      let there : suc i + n ≡ i + suc n = omega arith in
      let size : suc n * w ≡ length (f i) + n * w = suc-mul n w ∙ omega (arith, even i (omega arith)) in
      (rest.0, rw size (drop-append-add (f i) (entries_from f (suc i) k) (n * w)) ∙ rest.1 ∙ ap (λ (j : ℕ). f j ++ rest.0) there)

  module _ (t : List ℕ) (table : TableOf f m t) (n : ℕ) (low : n < m) where
    there : (r : List ℕ) × (drop (n * w) t ≡ f n ++ r)
    unfolding TableOf
    there =
        let b = behind n 0 m low (omega arith) in
        (b.0, ap (drop (n * w)) table ∙ b.1 ∙ ap (λ (j : ℕ). f j ++ b.0) (zero-add n))

    -- entry i of row n
    pub entry_at : (i : ℕ) → i < w → get_or t (n * w + i) 0 ≡ get_or (f n) i 0
    entry_at i h = sym (get_or-drop (n * w) t i 0) ∙ ap (λ (l : List ℕ). get_or l i 0) there.1 ∙ get_or-append (f n) there.0 0 i (rw (even n low) h)

    -- the first k entries of row n
    pub front_at : (k : ℕ) → k ≤ w → take k (drop (n * w) t) ≡ take k (f n)
    front_at k h = ap (take k) there.1 ∙ take-append-le k (f n) there.0 (rw (even n low) h)
