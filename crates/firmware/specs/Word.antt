-- What a routine answers to C: refusal times 4,294,967,296 plus its place, or the count alone. Assumes nothing.
use Rattle.std.specs.Prelude.{ℕ, ◌+◌, ◌*◌, ◌<◌, List}
use Rattle.numbers.specs.Limits as limit
use Rattle.octets.specs.Room.{Filled}
use Rattle.octets.specs.Room.{Written}
use Rattle.octets.specs.Room.{Wrote, Refused as Unwritten}
use Rattle.reader.specs.Outcome.{Verdict}
use Rattle.reader.specs.Outcome.{Accepted, Refused}

abbrev pub word : ℕ → ℕ → ℕ
word n p = n * limit.word + p

-- of the reader's verdict: the count of cards
abbrev pub verdict_word : Verdict → ℕ
verdict_word (Accepted cards lines) = cards
verdict_word (Refused n p) = word n p

-- of what was written: the count of octets
abbrev pub written_word : Written → ℕ
written_word (Wrote octets) = octets
written_word (Unwritten n p) = word n p

-- the place of a refusal fits its half of the word
abbrev pub Low : Written → Type 0
Low (Wrote octets) = Unit {0}
Low (Unwritten n p) = p < limit.word

-- an answer, and what the room holds then
pub record Worded : Type 0 where
  pub answer : ℕ
  pub room : List ℕ

abbrev pub worded : ℕ → List ℕ → Worded
worded r room = record { answer = r; room = room }

-- an outcome of writing, answered by a word
abbrev pub word_outcome : Filled → Worded
word_outcome f = worded (written_word f.answer) f.room
