-- Tables of rows: each row has equally many entries, and the rows stand one behind the other. Assumes nothing.
use Rattle.std.specs.Prelude.{ℕ, zero, suc, ◌≡◌, List, [], ◌++◌}

-- the entries of k rows from row n on
unfoldable pub entries_from : (ℕ → List ℕ) → ℕ → ℕ → List ℕ
entries_from entries n zero = []
entries_from entries n (suc k) = entries n ++ entries_from entries (suc n) k

-- a list is the table of k rows
unfoldable pub TableOf : (ℕ → List ℕ) → ℕ → List ℕ → Type 0
TableOf entries k t = t ≡ entries_from entries 0 k
