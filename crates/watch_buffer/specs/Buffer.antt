-- A lent buffer of 16,384 octets that holds some octets at its front. Assumes nothing.
use Rattle.std.specs.Prelude.{ℕ, ◌-◌, List, ◌++◌, length, replicate}
use Rattle.numbers.specs.Limits as limit

-- the buffer that holds these octets: the rest is 0
unfoldable pub padded : List ℕ → List ℕ
padded u = u ++ replicate (limit.octets - length u) 0
