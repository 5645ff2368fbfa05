-- Text and numbers in columns. Assumes nothing.
use Rattle.std.specs.Prelude.{ℕ, ◌-◌, List, [], ◌∷◌, ◌++◌, length, replicate}
use Rattle.cabbook_cells.specs.Cells.{blanks}
use Rattle.program_output.specs.Digits.{decimal}
use Rattle.program_visible.specs.Visible.{visible}

-- a text at the left of a column of so many cells, and a space
abbrev pub at_left : List ℕ → ℕ → List ℕ
at_left text width = visible text ++ replicate (width - length (blanks text)) 32 ++ (32 ∷ [])

-- a number at the right of a column of so many characters
abbrev pub at_right : ℕ → ℕ → List ℕ
at_right n width = replicate (width - length (decimal n)) 32 ++ decimal n
