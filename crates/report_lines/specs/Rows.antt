-- The property number of a logical line, and how many lines have each. Assumes nothing.
use Rattle.std.specs.Prelude.{ℕ, zero, suc, ◌+◌, Bool, true, false, List, [], ◌∷◌, map, eqb}
use Rattle.numbers.specs.Properties as property
use Rattle.line_parser.specs.Parse.{Parse, got, bad}
use Rattle.line_parser.specs.Rule.{Head, head}
use Rattle.property_table.specs.declared.Edition.TheVariants.{First}
use Rattle.property_table.specs.Rows.{row_of}

-- by group and name, as far as they are read
abbrev pub row_by : Parse Head → ℕ
row_by (got h k) = row_of First h.name
row_by (bad e) = property.other

-- the property number of a line by its name
unfoldable pub row_of_name : List ℕ → ℕ
row_of_name l = row_by (head l)

-- 1 where the test holds, else 0
abbrev pub one : Bool → ℕ
one true = 1
one false = 0

-- how many of the lines have the property number m
unfoldable pub lines_with : ℕ → List (List ℕ) → ℕ
lines_with m [] = 0
lines_with m (l ∷ ls) = one (eqb (row_of_name l) m) + lines_with m ls

-- n numbers from i on
unfoldable pub numbers_from : ℕ → ℕ → List ℕ
numbers_from i zero = []
numbers_from i (suc n) = i ∷ numbers_from (suc i) n

-- for each property number how many of the lines have it
unfoldable pub line_counts : List (List ℕ) → List ℕ
line_counts ls = map (λ m. lines_with m ls) (numbers_from 0 property.count)
