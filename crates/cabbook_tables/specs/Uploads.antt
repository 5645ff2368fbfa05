-- The table of a morning's uploads. Assumes nothing.
use Rattle.std.specs.Prelude.{ℕ, ◌+◌, min, Bool, List, ◌++◌, eqb, ltb}
use Rattle.numbers.specs.Limits as limit
use Rattle.octets.specs.Pick.{pick}
use Rattle.octets.specs.Ascii.{octets}
use Rattle.reader.specs.Outcome.{Verdict}
use Rattle.reader.specs.Outcome.{Accepted, Refused}
use Rattle.cabbook_messages.specs.Sentences.{amount, counted, refusal}
use Rattle.cabbook_messages.specs.Words.{words_of}
use Rattle.cabbook_columns.specs.Columns.{at_left, at_right}
use Rattle.cabbook_tables.specs.Statuses as status

-- how many characters the columns have: that of the cards, and those of the tickets and of the octets
abbrev pub cards_width : ℕ
cards_width = 5

abbrev pub count_width : ℕ
count_width = 6

abbrev pub titles : ℕ → List ℕ
titles width = at_left (octets "tram") width ++ octets "ticket  octets  cards  verdict\n"

-- the count of cards and the verdict
abbrev pub verdict_text : Verdict → List ℕ
verdict_text (Accepted cards lines) = at_right cards cards_width ++ octets "  accepted"
verdict_text (Refused number place) = octets "    -  " ++ refusal number place ++ octets ": " ++ words_of number

abbrev pub same_text : Bool → List ℕ
same_text same = pick same (octets "\n") (octets "; what it holds is not its file's\n")

abbrev pub counts_text : ℕ → ℕ → List ℕ
counts_text ticket held = at_right ticket count_width ++ octets "  " ++ at_right held count_width ++ octets "  "

abbrev pub upload_row : List ℕ → ℕ → ℕ → ℕ → Verdict → Bool → List ℕ
upload_row path width ticket held v same = at_left path width ++ counts_text ticket held ++ verdict_text v ++ same_text same

-- a text where there is none, else how many things there are and what is said of them
abbrev pub note : ℕ → List ℕ → List ℕ → List ℕ → List ℕ
note n none thing end = pick (eqb n 0) none (octets "; " ++ counted n thing ++ end)

-- the uploads, as far as numbers go, and those accepted and refused
abbrev pub totals : ℕ → ℕ → List ℕ
totals accepted refused =
    counted (min (accepted + refused) limit.largest64) (octets " upload") ++ octets ": "
    ++ amount accepted (octets " accepted, ") ++ amount refused (octets " refused")

-- how many uploads were reclaimed, where there are any
abbrev pub reclaimed_text : ℕ → List ℕ
reclaimed_text reclaimed = note reclaimed (octets "") (octets " upload") (octets " reclaimed")

-- whether the octets of all uploads are their files'
abbrev pub comparison : ℕ → List ℕ
comparison differing = note differing (octets "; what each upload holds is its file's") (octets " upload") (octets " with other octets than its file")

-- how many files were not read, where there are any, and the line's end
abbrev pub unread_text : ℕ → List ℕ
unread_text unread = note unread (octets "\n") (octets " file") (octets " not read\n")

abbrev pub summary : ℕ → ℕ → ℕ → ℕ → ℕ → List ℕ
summary accepted refused reclaimed differing unread = totals accepted refused ++ reclaimed_text reclaimed ++ comparison differing ++ unread_text unread

-- whether a file was not read, or an upload is refused or differs from its file
abbrev pub status_of : ℕ → ℕ → ℕ → ℕ
status_of refused differing unread = pick (ltb 0 unread) status.failed (pick (ltb 0 refused) status.refused (pick (ltb 0 differing) status.refused status.accepted))
