-- An answer as one number: the count of octets written, or a refusal's number times 4,294,967,296. Assumes nothing.
use Rattle.std.specs.Prelude.{ℕ, ◌*◌}
use Rattle.numbers.specs.Limits as limit
use Rattle.octets.specs.Room.{Written}
use Rattle.octets.specs.Room.{Wrote, Refused}

abbrev pub number : ℕ → ℕ
number n = n * limit.word

abbrev pub written_number : Written → ℕ
written_number (Wrote n) = n
written_number (Refused n p) = number n
