-- How many records an input has. Assumes nothing.
use Rattle.std.specs.Prelude.{ℕ, ◌*◌}
use Rattle.numbers.specs.Limits as limit

-- the most lines of an input: a line has at least four octets, as `A:` and CR LF
abbrev pub most_lines : ℕ
most_lines = 4096

-- the numbers of their records
abbrev pub most_numbers : ℕ
most_numbers = most_lines * limit.record_length
