-- The rows of a report, each after a bar. Assumes nothing.
use Rattle.std.specs.Prelude.{ℕ, ◌-◌, ◌*◌, ◌/◌, List, [], ◌∷◌, ◌++◌, eqb, leb, ltb, get_or, take, drop, replicate}
use Rattle.numbers.specs.Counts as places
use Rattle.octets.specs.Ascii as ascii
use Rattle.octets.specs.Pick.{pick}
use Rattle.report_weights.specs.Counts.{count_at}
use Rattle.report.specs.Text.{has, shown}

-- the most marks of a bar
abbrev pub widest : ℕ
widest = 40

-- a share of them; a count that is not 0 has a mark
unfoldable pub bar_length : ℕ → ℕ → ℕ
bar_length n whole =
    pick (eqb n 0) 0 (pick (leb whole n) widest (pick (eqb (widest * n / whole) 0) 1 (widest * n / whole)))

-- the count that another is a part of: uploads of accepted and refused ones, lines of those of a property
unfoldable pub whole_of : ℕ → ℕ
whole_of p =
    pick (eqb p places.cards) p
    (pick (eqb p places.octets) p
    (pick (eqb p places.lines) p
    (pick (ltb p places.properties) places.uploads places.lines)))

-- k marks, and spaces up to the row
unfoldable pub cell : ℕ → List ℕ
cell k = take 41 (drop (widest - k) (ascii.octets "########################################                                         "))

-- the row of the count at a place, which is n, after a bar of k marks
unfoldable pub barred : ℕ → ℕ → ℕ → List ℕ
barred p n k = pick (has (count_at p) n) (cell k ++ shown (count_at p) n) []

-- those of the counts ns at some places
unfoldable pub bars : List ℕ → List ℕ → List ℕ
bars ns [] = []
bars ns (p ∷ ps) = barred p (get_or ns p 0) (bar_length (get_or ns p 0) (get_or ns (whole_of p) 0)) ++ bars ns ps
