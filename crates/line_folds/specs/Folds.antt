-- Folds, by REFERENCE, Input and logical lines: CR LF followed by one space or tab. The logical line at the start of a list, and a list without its folds.
-- Assumes nothing.
use Rattle.std.specs.Prelude.{ℕ, Bool, not, ◌&&◌, ◌||◌, List, [], ◌∷◌, eqb, get_or}
use Rattle.octets.specs.Ascii as ascii
use Rattle.octets.specs.Pick.{pick}
use Rattle.octets.specs.Scan.{scan, gather}

-- a fold starts here
unfoldable pub fold_at : List ℕ → Bool
fold_at l = eqb (get_or l 0 0) ascii.cr && (eqb (get_or l 1 0) ascii.lf && (eqb (get_or l 2 0) ascii.space || eqb (get_or l 2 0) ascii.tab))

-- the octets of a fold
abbrev pub fold_length : ℕ
fold_length = 3

-- a fold is passed whole, a CR of no fold ends the line
unfoldable pub line_step : List ℕ → ℕ
line_step l = pick (fold_at l) fold_length (pick (eqb (get_or l 0 0) ascii.cr) 0 1)

-- the length of the first logical line, with its folds and without its end
unfoldable pub line_length : List ℕ → ℕ
line_length l = scan line_step l 0

-- how many octets a step of unfolding passes
unfoldable pub passed : List ℕ → ℕ
passed l = pick (fold_at l) fold_length 1

-- what it keeps of them
unfoldable pub kept : List ℕ → List ℕ
kept l = pick (fold_at l) [] (get_or l 0 0 ∷ [])

-- the list without its folds; each CR LF is read once
unfoldable pub unfolded : List ℕ → List ℕ
unfolded l = gather passed kept l 0

unfoldable pub not_cr : ℕ → Bool
not_cr b = not (eqb b ascii.cr)
