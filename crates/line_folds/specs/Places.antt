-- Where the octets of an unfolded line stand in the line as it came. Assumes nothing.
use Rattle.std.specs.Prelude.{ℕ, zero, suc, ◌+◌, List, [], ◌∷◌, length, get_or}
use Rattle.octets.specs.Pick.{pick}
use Rattle.line_folds.specs.Folds.{fold_at}

-- the places of the octets that unfolding keeps, counted from i; k octets of a fold are still to be passed
unfoldable pub kept_from : ℕ → List ℕ → ℕ → List ℕ
kept_from i [] k = []
kept_from i (x ∷ xs) zero = pick (fold_at (x ∷ xs)) (kept_from (i + 1) xs 2) (i ∷ kept_from (i + 1) xs 0)
kept_from i (x ∷ xs) (suc k) = kept_from (i + 1) xs k

-- where octet o of the line without its folds stands in the line as it came; the line's end past the last one
unfoldable pub place_of : List ℕ → ℕ → ℕ
place_of l o = get_or (kept_from 0 l 0) o (length l)
