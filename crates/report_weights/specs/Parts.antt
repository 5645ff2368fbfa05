-- What one judgement adds to each count, by REFERENCE, The morning report. Assumes nothing.
use Rattle.std.specs.Prelude.{ℕ, List, map, eqb, length, get_or}
use Rattle.line_folds.specs.Logical.{logical_lines}
use Rattle.reader.specs.Outcome.{judge_of}
use Rattle.reader.specs.Outcome.{Verdict}
use Rattle.reader.specs.Outcome.{Accepted, Refused}
use Rattle.report_lines.specs.Rows.{one, line_counts}
use Rattle.report_weights.specs.Counts.{Count, uploads, accepted, cards, lines, octets, refused_with, lines_of, counts}

-- an upload that is refused with n: it is an upload, and one refused with that number
abbrev pub refused_part : ℕ → Count → ℕ
refused_part n uploads = 1
refused_part n accepted = 0
refused_part n cards = 0
refused_part n lines = 0
refused_part n octets = 0
refused_part n (refused_with m) = one (eqb n m)
refused_part n (lines_of m) = 0

-- an accepted upload of k cards, n lines and o octets, with ls lines of each property number
abbrev pub accepted_part : ℕ → ℕ → ℕ → List ℕ → Count → ℕ
accepted_part k n o ls uploads = 1
accepted_part k n o ls accepted = 1
accepted_part k n o ls cards = k
accepted_part k n o ls lines = n
accepted_part k n o ls octets = o
accepted_part k n o ls (refused_with m) = 0
accepted_part k n o ls (lines_of m) = get_or ls m 0

-- by the verdict on the octets i
abbrev pub part_by : Verdict → List ℕ → Count → ℕ
part_by (Refused n p) i c = refused_part n c
part_by (Accepted k n) i c = accepted_part k n (length i) (line_counts (logical_lines i)) c

-- what the judgement of the octets i adds to a count; the octets are those of the input as given
unfoldable pub part : Count → List ℕ → ℕ
part c i = part_by (judge_of i) i c

-- and to each count of a report
unfoldable pub weights : List ℕ → List ℕ
weights i = map (λ c. part c i) counts
