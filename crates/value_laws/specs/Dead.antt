-- From which octet on a text can no longer become what it should be. Assumes nothing.
use Rattle.std.specs.Prelude.{ℕ, suc, ◌<◌, ◌≤◌, List, [], ◌∷◌, ◌++◌, length, take}

-- numbers that octets have
unfoldable pub AreOctets : List ℕ → Type 0
AreOctets [] = Unit {0}
AreOctets (x ∷ xs) = (x < 256) × AreOctets xs

-- v is not of P, its first o octets have a continuation that is, and with octet o they have none; o is the length where v only ends too early
pub record Dead (P : List ℕ → Type 0) (v : List ℕ) (o : ℕ) : Type 0 where
  pub unfit : P v → ⊥
  pub inside : o ≤ length v
  pub goes_on : (w : List ℕ) × AreOctets w × P (take o v ++ w)
  pub no_more : o < length v → (w : List ℕ) → P (take (suc o) v ++ w) → ⊥
