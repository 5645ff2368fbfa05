-- The marks of a card's lines in order. Assumes nothing.
use Rattle.std.specs.Prelude.{ℕ, zero, suc, ◌+◌, min, Bool, true, false, List, [], ◌++◌, eqb, ltb, length, get_or}
use Rattle.numbers.specs.Limits as limit
use Rattle.numbers.specs.Fields as field
use Rattle.octets.specs.Pick.{pick}
use Rattle.octets.specs.Slices.{part}
use Rattle.merge_pids.specs.Marks.{Mark, params_marks}
use Rattle.merge_sides.specs.Lines.{field_at, name_start_at}
use Rattle.merge_sides.specs.Sources.{narrowed}

-- the octets of line i behind its name
unfoldable pub behind_name : List ℕ → List ℕ → ℕ → List ℕ
behind_name c rs i = part c (name_start_at rs i + field_at rs i field.name) (field_at rs i field.start + field_at rs i field.length)

-- none where it has no parameter
unfoldable pub line_marks : List ℕ → List ℕ → ℕ → List Mark
line_marks c rs i = pick (eqb (field_at rs i field.parameters) 0) [] (params_marks (narrowed i) (suc (length (behind_name c rs i))) (behind_name c rs i))

-- of k lines from i on
unfoldable pub marks_from : List ℕ → List ℕ → ℕ → ℕ → List Mark
marks_from c rs i zero = []
marks_from c rs i (suc k) = line_marks c rs i ++ marks_from c rs (i + 1) k

-- one of k numbers from i on is over 65,535
unfoldable pub over_from : List ℕ → ℕ → ℕ → Bool
over_from xs i zero = false
over_from xs i (suc k) = pick (ltb limit.source_number (get_or xs i 0)) true (over_from xs (i + 1) k)

-- a number of the marks that end at n
unfoldable pub over_marks : List ℕ → ℕ → Bool
over_marks xs n = over_from xs 0 (min n (length xs))
