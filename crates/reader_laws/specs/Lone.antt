-- Refusal 3 of REFERENCE, Refusals in plain words: CR without LF after it, or LF without CR before it. Assumes nothing.
use Rattle.std.specs.Prelude.{ℕ, zero, suc, ◌≡◌, List, get_or}

-- b is such an octet, where a stands before it and c after it
pub data Alone (a b c : ℕ) : Type 0 where
  cr : b ≡ 13 → (c ≡ 10 → ⊥) → Alone a b c
  lf : b ≡ 10 → (a ≡ 13 → ⊥) → Alone a b c

-- the octet before the k-th, where o stands before the first
unfoldable pub before : ℕ → List ℕ → ℕ → ℕ
before o l zero = o
before o l (suc k) = get_or l k 0

-- the k-th octet is one; 0, which is neither, stands for an octet before the first and past the last
unfoldable pub Lone : List ℕ → ℕ → Type 0
Lone i k = Alone (before 0 i k) (get_or i k 0) (get_or i (suc k) 0)
