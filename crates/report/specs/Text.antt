-- The printed report, by REFERENCE, The morning report: one row a count, the first five always, any other where it is not 0. Assumes nothing.
use Rattle.std.specs.Prelude.{ℕ, Bool, true, false, not, ◌||◌, List, [], ◌∷◌, ◌++◌, eqb, get_or, drop}
use Rattle.octets.specs.Ascii as ascii
use Rattle.octets.specs.Pick.{pick}
use Rattle.program_output.specs.Digits.{decimal}
use Rattle.report_weights.specs.Counts.{Count, uploads, accepted, cards, lines, octets, refused_with, lines_of, counts}
use Rattle.report.specs.declared.Report.{Report}

-- `r` or `p` stands before the number of a refusal or a property
unfoldable pub name : Count → List ℕ
name uploads = ascii.octets "uploads"
name accepted = ascii.octets "accepted"
name cards = ascii.octets "cards"
name lines = ascii.octets "lines"
name octets = ascii.octets "octets"
name (refused_with n) = ascii.octets "r" ++ decimal n
name (lines_of m) = ascii.octets "p" ++ decimal m

-- the first five
abbrev pub always : Count → Bool
always uploads = true
always accepted = true
always cards = true
always lines = true
always octets = true
always (refused_with n) = false
always (lines_of m) = false

-- the row of a count that is n: its name, a space, the number, and LF
unfoldable pub row : Count → ℕ → List ℕ
row c n = name c ++ (ascii.space ∷ (decimal n ++ (ascii.lf ∷ [])))

-- a count that is n has a row: the first five always, any other where it is not 0
unfoldable pub has : Count → ℕ → Bool
has c n = always c || not (eqb n 0)

unfoldable pub shown : Count → ℕ → List ℕ
shown c n = pick (has c n) (row c n) []

-- the rows of the counts cs, which are the numbers ns in order
unfoldable pub rows_of : List Count → List ℕ → List ℕ
rows_of [] ns = []
rows_of (c ∷ cs) ns = shown c (get_or ns 0 0) ++ rows_of cs (drop 1 ns)

unfoldable pub report_text : Report → List ℕ
report_text r = rows_of counts r.counts
