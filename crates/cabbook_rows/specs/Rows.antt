-- The row of a file. Assumes nothing.
use Rattle.std.specs.Prelude.{ℕ, ◌+◌, min, List, ◌++◌, length}
use Rattle.octets.specs.Ascii.{octets}
use Rattle.octets.specs.Slices.{part}
use Rattle.cabbook_positions.specs.Positions.{count, is_lf, is_first, back_to, begins}
use Rattle.program_visible.specs.Visible.{visible}
use Rattle.cabbook_messages.specs.Sentences.{amount, counted}
use Rattle.cabbook_rows.specs.Faults.{why}

-- the start of a row: the file's name
abbrev pub named : List ℕ → List ℕ
named path = visible path ++ octets ": "

abbrev pub accepted_row : List ℕ → ℕ → ℕ → List ℕ
accepted_row path cards lines =
    named path ++ counted cards (octets " card") ++ octets ", " ++ counted lines (octets " line") ++ octets "\n"

-- the number of the line that is reached after the octets before a place: 1, and 1 more for each LF
abbrev pub line_of : List ℕ → ℕ → ℕ
line_of s place = 1 + count is_lf (part s 0 (min place (length s)))

-- the column of a place in its physical line: 1, and 1 more for each character before it there
abbrev pub column_of : List ℕ → ℕ → ℕ
column_of s place = count is_first (part s (back_to (begins s) (min place (length s))) (min place (length s))) + 1

-- where a place lies in a file
abbrev pub location : List ℕ → List ℕ → ℕ → List ℕ
location path s place = visible path ++ octets ":" ++ amount (line_of s place) (octets ":") ++ amount (column_of s place) (octets ": ")

abbrev pub refused_row : List ℕ → List ℕ → ℕ → ℕ → List ℕ
refused_row path s number place = location path s place ++ octets "refused " ++ amount number (octets ": ") ++ why s number place ++ octets "\n"
