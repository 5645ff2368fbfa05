-- Answers as one number: a count, or a refusal's number times 4,294,967,296. Assumes nothing.
use Rattle.std.specs.Prelude.{ℕ, ◌*◌}
use Rattle.numbers.specs.Limits as limit
use Rattle.octets.specs.Room.{Written}
use Rattle.octets.specs.Room.{Wrote, Refused as Unwritten}
use Rattle.reader.specs.Outcome.{Verdict}
use Rattle.reader.specs.Outcome.{Accepted, Refused as Unread}
use Rattle.desk.specs.Answer.{Answer, Done, Refused}

abbrev pub number : ℕ → ℕ
number n = n * limit.word

abbrev pub written_number : Written → ℕ
written_number (Wrote n) = n
written_number (Unwritten n p) = number n

abbrev pub verdict_number : Verdict → ℕ
verdict_number (Accepted cards lines) = cards
verdict_number (Unread n p) = number n

abbrev pub answer_number : Answer → ℕ
answer_number (Done n) = n
answer_number (Refused n p) = number n
