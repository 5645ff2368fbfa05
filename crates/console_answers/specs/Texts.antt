-- The texts of the console's answers, from the page that describes it. Assumes nothing.
use Rattle.std.specs.Prelude.{ℕ, Bool, List, [], ◌∷◌, ◌++◌, ℤ, pos, nat_abs}
use Rattle.std.specs.Int.Signed.{lt_z}
use Rattle.octets.specs.Pick.{pick}
use Rattle.octets.specs.Ascii.{octets}
use Rattle.octets.specs.Room.{Written}
use Rattle.octets.specs.Room.{Wrote, Refused as Unwritten}
use Rattle.octets.specs.Slices.{part}
use Rattle.program_output.specs.Digits.{decimal, pair}
use Rattle.reader.specs.Outcome.{Verdict}
use Rattle.reader.specs.Outcome.{Accepted, Refused}
use Rattle.value_offsets.specs.declared.Offset.{Offset}
use Rattle.value_offsets.specs.declared.Offset.TheVariants.{Minutes, Refused as NoOffset}
use Rattle.desk.specs.Answer.{Answer, Done, Refused as Denied}

-- ---- words

-- octets in pairs of digits
unfoldable pub pairs : List ℕ → List ℕ
pairs [] = []
pairs (x ∷ xs) = pair x ++ pairs xs

-- octets as a word: those pairs, or `-` for none
unfoldable pub octets_word : List ℕ → List ℕ
octets_word [] = octets "-"
octets_word (x ∷ xs) = pairs (x ∷ xs)

-- a comma and a number
abbrev pub further : ℕ → List ℕ
further n = 44 ∷ decimal n

unfoldable pub others : List ℕ → List ℕ
others [] = []
others (n ∷ ns) = further n ++ others ns

-- numbers joined by commas
unfoldable pub joined : List ℕ → List ℕ
joined [] = []
joined (n ∷ ns) = decimal n ++ others ns

-- a number with a hyphen before it where it is below 0
unfoldable pub signed_word : ℤ → List ℕ
signed_word z = pick (lt_z z (pos 0)) (45 ∷ decimal (nat_abs z)) (decimal (nat_abs z))

-- a word after another
abbrev pub spaced : List ℕ → List ℕ
spaced w = 32 ∷ w

-- ---- lines

abbrev pub line_end : List ℕ
line_end = 10 ∷ []

-- `bad request`, a whole line
unfoldable pub bad_line : List ℕ
bad_line = octets "bad request" ++ line_end

-- `no NUMBER PLACE`
unfoldable pub refusal_text : ℕ → ℕ → List ℕ
refusal_text n p = octets "no" ++ (spaced (decimal n) ++ spaced (decimal p))

-- `ok NUMBER`
unfoldable pub done_text : ℕ → List ℕ
done_text n = octets "ok" ++ spaced (decimal n)

-- `ok CARDS LINES`, or the refusal
unfoldable pub verdict_text : Verdict → List ℕ
verdict_text (Accepted k n) = done_text k ++ spaced (decimal n)
verdict_text (Refused n p) = refusal_text n p

-- the desk's: `ok NUMBER`, or the refusal
unfoldable pub answer_text : Answer → List ℕ
answer_text (Done n) = done_text n
answer_text (Denied n p) = refusal_text n p

-- `ok MINUTES`, or the refusal
unfoldable pub offset_text : Offset → List ℕ
offset_text (Minutes z) = octets "ok" ++ spaced (signed_word z)
offset_text (NoOffset n p) = refusal_text n p

-- `ok COUNT OCTETS` with the octets written to room, or the refusal
unfoldable pub written_text : Written → List ℕ → List ℕ
written_text (Wrote n) room = done_text n ++ spaced (octets_word (part room 0 n))
written_text (Unwritten n p) room = refusal_text n p

-- the line's end, after the word for room that is not as it was
unfoldable pub room_end : Bool → List ℕ
room_end kept = pick kept line_end (octets " touched" ++ line_end)
