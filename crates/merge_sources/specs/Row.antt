-- A row of a source map as a value, its first entry of a number, and when two rows are the same. Assumes nothing.
use Rattle.std.specs.Prelude.{ℕ, zero, suc, ◌+◌, List, [], ◌∷◌, Option, Some, None, Bool, true, false, eqb, ltb, length, get_or, set, replicate}
use Rattle.numbers.specs.Limits as limit
use Rattle.octets.specs.Pick.{pick}
use Rattle.merge_sources.specs.declared.Source.{Source}
use Rattle.merge_sources.specs.declared.Row.{Row}

-- the entry past the end of a row
abbrev pub none : Source
none = record { number = 0; place = 0; length = 0 }

-- a row with another entry at i
unfoldable pub put : Row → ℕ → Source → Row
put r i e = record { count = r.count; entries = set r.entries i e }

-- a row of that count with the first i entries of ys
unfoldable pub filled : ℕ → List Source → ℕ → Row
filled n ys zero = record { count = n; entries = replicate limit.sources none }
filled n ys (suc i) = put (filled n ys i) i (get_or ys i none)

-- k entries from i on, zeros past the end
unfoldable pub entries_from : List Source → ℕ → ℕ → List Source
entries_from ys i zero = []
entries_from ys i (suc k) = get_or ys i none ∷ entries_from ys (i + 1) k

-- how many entries there are, and the first sixteen
unfoldable pub row_of : List Source → Row
row_of ys = record { count = length ys; entries = entries_from ys 0 limit.sources }

-- at most sixteen
unfoldable pub least : ℕ → ℕ
least n = pick (ltb n limit.sources) n limit.sources

-- the first of k entries from i on that has the number
unfoldable pub first_in : List Source → ℕ → ℕ → ℕ → Option ℕ
first_in es i zero number = None
first_in es i (suc k) number = pick (eqb (get_or es i none).number number) (Some i) (first_in es (i + 1) k number)

-- the same number, place and length
unfoldable pub same_entry : Source → Source → Bool
same_entry a b = pick (eqb a.number b.number) (pick (eqb a.place b.place) (eqb a.length b.length) false) false

-- the same k entries from i on
unfoldable pub same_entries : List Source → List Source → ℕ → ℕ → Bool
same_entries xs ys i zero = true
same_entries xs ys i (suc k) = pick (same_entry (get_or xs i none) (get_or ys i none)) (same_entries xs ys (i + 1) k) false

-- as many entries, and the same first sixteen
unfoldable pub same_row : Row → Row → Bool
same_row a b = pick (eqb a.count b.count) (same_entries a.entries b.entries 0 limit.sources) false
