-- The logical lines of an input. Assumes nothing.
use Rattle.std.specs.Prelude.{ℕ, zero, suc, ◌+◌, List, [], ◌∷◌, map, length, take, drop}
use Rattle.line_folds.specs.Folds.{line_length, unfolded}

-- the logical lines as they came, each without its end; n bounds their count
unfoldable pub lines_by : ℕ → List ℕ → List (List ℕ)
lines_by zero l = []
lines_by (suc n) [] = []
lines_by (suc n) (x ∷ xs) = take (line_length (x ∷ xs)) (x ∷ xs) ∷ lines_by n (drop (line_length (x ∷ xs) + 2) (x ∷ xs))

unfoldable pub raw_lines : List ℕ → List (List ℕ)
raw_lines l = lines_by (length l) l

-- the logical lines, unfolded
unfoldable pub logical_lines : List ℕ → List (List ℕ)
logical_lines i = map unfolded (raw_lines i)
