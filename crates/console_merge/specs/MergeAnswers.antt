-- What the console answers to a request of two edits of one card. Assumes nothing.
use Rattle.std.specs.Prelude.{ℕ, ◌*◌, ◌/◌, min, Bool, false, List, [], ◌∷◌, ◌++◌, ltb, length, take, drop}
use Rattle.octets.specs.Pick.{pick}
use Rattle.octets.specs.Ascii.{octets}
use Rattle.octets.specs.Slices.{part}
use Rattle.merge_sources.specs.declared.Source.{Source}
use Rattle.merge.specs.Outcome.{Planned, plan_outcome, check_outcome}
use Rattle.merge.specs.Paired.{Paired, Pairs, Refused}
use Rattle.console_answers.specs.Texts.{line_end, bad_line, done_text, refusal_text, joined, spaced, room_end}
use Rattle.console_entries.specs.Rooms.{number_fill, number_room, most_room, all}
use Rattle.console_parts.specs.Parts.{number_length, entry_length, most_lent, most_octets, part_of, whole, holds_edits, sources_up_to, numbers_from}

-- ---- texts

-- `ok PAIRS`, or the refusal
unfoldable pub paired_text : Paired → List ℕ
paired_text (Pairs n) = done_text n
paired_text (Refused n p) = refusal_text n p

-- numbers joined by commas, or `-` for none
unfoldable pub numbers_word : List ℕ → List ℕ
numbers_word [] = octets "-"
numbers_word (n ∷ ns) = joined (n ∷ ns)

-- the numbers that the planner wrote; nothing on a refusal
unfoldable pub written_word : Paired → List ℕ → List ℕ
written_word (Pairs n) s = spaced (numbers_word s)
written_word (Refused n p) s = []

-- how many numbers were written: two a pair, of at most so many; none on a refusal
unfoldable pub numbers_in : Paired → ℕ → ℕ
numbers_in (Pairs n) most = min (n * 2) most
numbers_in (Refused n p) most = 0

-- the answer, the first n numbers of the room, and the rest of it looked at
abbrev pub planned_by : Paired → List ℕ → ℕ → List ℕ
planned_by a room n = paired_text a ++ (written_word a (part room 0 n) ++ room_end (all number_fill (drop n room)))

unfoldable pub planned_text : Planned → List ℕ
planned_text t = planned_by t.answer t.room (numbers_in t.answer (length t.room))

abbrev pub checked_text : Paired → List ℕ
checked_text a = paired_text a ++ line_end

-- ---- the calls

-- the row of these octets, as far as it is lent
abbrev pub row_in : List ℕ → List Source
row_in s = take (min (length s / entry_length) most_lent) (sources_up_to s most_lent)

-- the planner on cards and rows of these octets
unfoldable pub plan_of : List ℕ → List ℕ → Planned
plan_of s room = plan_outcome (part_of s 0) (part_of s 1) (row_in (part_of s 2)) (row_in (part_of s 3)) room

-- the checker on the same, and a plan
unfoldable pub check_with : List ℕ → List ℕ → Paired
check_with s plan = check_outcome (part_of s 0) (part_of s 1) (row_in (part_of s 2)) (row_in (part_of s 3)) plan

-- the plan of these octets
abbrev pub numbers_of : List ℕ → List ℕ
numbers_of t = numbers_from t 0 (length t / number_length)

abbrev pub check_of : List ℕ → Paired
check_of s = check_with s (numbers_of (part_of s 4))

-- ---- the answers

-- more room than that, more octets than a line sends, or octets that do not come apart, are no request
unfoldable pub plan_answer : ℕ → List ℕ → List ℕ
plan_answer n s =
    pick (ltb most_room n) bad_line
    (pick (ltb most_octets (length s)) bad_line (pick (holds_edits s 4) (planned_text (plan_of s (number_room n))) bad_line))

-- five parts, rows of whole entries, and a plan of whole numbers
unfoldable pub is_check : List ℕ → Bool
is_check s = pick (ltb most_octets (length s)) false (pick (holds_edits s 5) (whole (part_of s 4) number_length) false)

unfoldable pub check_answer : List ℕ → List ℕ
check_answer s = pick (is_check s) (checked_text (check_of s)) bad_line
