-- A verdict as one number: the count of cards, or a refusal's number times 4,294,967,296. Assumes nothing.
use Rattle.std.specs.Prelude.{ℕ, ◌*◌}
use Rattle.numbers.specs.Limits as limit
use Rattle.reader.specs.Outcome.{Verdict}
use Rattle.reader.specs.Outcome.{Accepted, Refused}

abbrev pub number : ℕ → ℕ
number n = n * limit.word

abbrev pub verdict_number : Verdict → ℕ
verdict_number (Accepted cards lines) = cards
verdict_number (Refused n p) = number n
