-- What the console answers to a request of reader, folder, text, labels, offsets or version 3. Assumes nothing.
use Rattle.std.specs.Prelude.{ℕ, ◌+◌, ◌-◌, ◌*◌, min, List, [], ◌++◌, ltb, eqb, length, get_or, drop}
use Rattle.numbers.specs.Limits as limit
use Rattle.numbers.specs.Fields as field
use Rattle.octets.specs.Pick.{pick}
use Rattle.octets.specs.Room.{Filled}
use Rattle.octets.specs.Room.{Written}
use Rattle.octets.specs.Room.{Wrote, Refused as Unwritten}
use Rattle.octets.specs.Slices.{part}
use Rattle.property_table.specs.declared.Edition.{Edition}
use Rattle.property_table.specs.declared.Edition.TheVariants.{First, Second}
use Rattle.reader.specs.Outcome.{judge_in, Taken, read_in}
use Rattle.reader.specs.Outcome.{Verdict}
use Rattle.reader.specs.Outcome.{Accepted, Refused}
use Rattle.folder_raising.specs.declared.Style.TheVariants.{AsRead, Raised}
use Rattle.folder.specs.Outcome.{fold_in, fold_outcome}
use Rattle.text.specs.Outcomes.{escape_outcome, unescape_outcome}
use Rattle.label_carets.specs.declared.Rule.TheVariants.{Rfc6350, Rfc6868}
use Rattle.label.specs.Outcomes.{encode_outcome, decode_outcome}
use Rattle.version3.specs.Outcome.{take_outcome, give_outcome}
use Rattle.value_offsets.specs.Minutes.{minutes_of}
use Rattle.console_answers.specs.Texts.{line_end, bad_line, verdict_text, offset_text, written_text, octets_word, joined, spaced, room_end}
use Rattle.console_entries.specs.Rooms.{octet_fill, most_room, octet_room, number_room, all, both_kept}
use Rattle.console_entries.specs.declared.entries.Writer.{Writer}
use Rattle.console_entries.specs.declared.entries.Writer.TheVariants.{Fold, Escape, Unescape, Encode, Decode, FoldIn, TakeIn, GiveOut}

-- more room than that is no request
abbrev pub within : ℕ → List ℕ → List ℕ
within r t = pick (ltb most_room r) bad_line t

-- ---- judge

unfoldable pub judge_answer : Edition → List ℕ → List ℕ
judge_answer e i = verdict_text (judge_in e i) ++ line_end

-- the numbers of the editions; any other is no request
abbrev pub first_edition : ℕ
first_edition = 1

abbrev pub second_edition : ℕ
second_edition = 2

-- the answer in the edition of that number
abbrev pub in_edition : ℕ → (Edition → List ℕ) → List ℕ
in_edition n f = pick (eqb n first_edition) (f First) (pick (eqb n second_edition) (f Second) bad_line)

unfoldable pub judge_in_answer : ℕ → List ℕ → List ℕ
judge_in_answer n i = in_edition n (λ e. judge_answer e i)

-- ---- offset

unfoldable pub offset_answer : List ℕ → List ℕ
offset_answer v = offset_text (minutes_of v) ++ line_end

-- ---- read

abbrev pub lines_of : Verdict → ℕ
lines_of (Accepted k n) = n
lines_of (Refused n p) = 0

-- eight for each line, of at most so many
abbrev pub numbers_of : ℕ → ℕ → ℕ
numbers_of lines most = min (lines * limit.record_length) most

-- CR LF
abbrev pub line_end_length : ℕ
line_end_length = 2

-- the last record says where the last line of the copy starts and how long it is; CR LF ends it
unfoldable pub copy_length : List ℕ → ℕ
copy_length ns = pick (ltb (length ns) limit.record_length) 0 (get_or ns (length ns - limit.record_length + field.start) 0 + get_or ns (length ns - limit.record_length + field.length) 0 + line_end_length)

-- the octets and the numbers written, if there are any
unfoldable pub taken_text : List ℕ → List ℕ → List ℕ
taken_text copy records = pick (eqb (length records) 0) [] (spaced (octets_word copy) ++ spaced (joined records))

-- of the rooms, so many octets and so many numbers were written, and the rest is looked at
abbrev pub split_text : List ℕ → List ℕ → ℕ → ℕ → List ℕ
split_text copy records n k = taken_text (part copy 0 n) (part records 0 k) ++ room_end (both_kept (drop n copy) (drop k records))

abbrev pub rooms_by : List ℕ → List ℕ → ℕ → List ℕ
rooms_by copy records k = split_text copy records (copy_length (part records 0 k)) k

unfoldable pub rooms_text : ℕ → List ℕ → List ℕ → List ℕ
rooms_text lines copy records = rooms_by copy records (numbers_of lines (length records))

abbrev pub taken_answer : Taken → List ℕ
taken_answer t = verdict_text t.answer ++ rooms_text (lines_of t.answer) t.copy t.records

unfoldable pub read_text : Edition → List ℕ → List ℕ → List ℕ → List ℕ
read_text e i copy records = taken_answer (read_in e i copy records)

unfoldable pub read_answer : Edition → ℕ → ℕ → List ℕ → List ℕ
read_answer e r k i = within r (within k (read_text e i (octet_room r) (number_room k)))

unfoldable pub read_in_answer : ℕ → ℕ → ℕ → List ℕ → List ℕ
read_in_answer n r k i = in_edition n (λ e. read_answer e r k i)

-- ---- fold, escape, unescape, encode, decode, v3-in, v3-out

abbrev pub outcome_of : Writer → List ℕ → List ℕ → Filled
outcome_of Fold i room = fold_outcome i room
outcome_of Escape i room = escape_outcome i room
outcome_of Unescape i room = unescape_outcome i room
outcome_of (Encode r) i room = encode_outcome r i room
outcome_of (Decode r) i room = decode_outcome r i room
outcome_of (FoldIn e s) i room = fold_in e s i room
outcome_of TakeIn i room = take_outcome i room
outcome_of GiveOut i room = give_outcome i room

abbrev pub count : Written → ℕ
count (Wrote n) = n
count (Unwritten n p) = 0

-- what the entry wrote, and the rest of the room looked at
unfoldable pub write_text : Filled → List ℕ
write_text f = written_text f.answer f.room ++ room_end (all octet_fill (drop (count f.answer) f.room))

unfoldable pub write_answer : Writer → ℕ → List ℕ → List ℕ
write_answer e r i = within r (write_text (outcome_of e i (octet_room r)))

-- of two entries the one for 0, the other for 1; any other number is no request
unfoldable pub chosen_answer : Writer → Writer → ℕ → ℕ → List ℕ → List ℕ
chosen_answer old new which r i = pick (eqb which 0) (write_answer old r i) (pick (eqb which 1) (write_answer new r i) bad_line)

abbrev pub encode_answer : ℕ → ℕ → List ℕ → List ℕ
encode_answer rule r i = chosen_answer (Encode Rfc6350) (Encode Rfc6868) rule r i

abbrev pub decode_answer : ℕ → ℕ → List ℕ → List ℕ
decode_answer rule r i = chosen_answer (Decode Rfc6350) (Decode Rfc6868) rule r i

-- style 0 is as read, style 1 is raised
unfoldable pub fold_answer : ℕ → ℕ → ℕ → List ℕ → List ℕ
fold_answer edition style r i = in_edition edition (λ e. chosen_answer (FoldIn e AsRead) (FoldIn e Raised) style r i)
