-- Numbers in two octets and in four, the highest octet first. Assumes nothing.
use Rattle.std.specs.Prelude.{ℕ, ◌+◌, ◌*◌, ◌/◌, ◌%◌, List, [], ◌∷◌, ◌++◌, get_or}

-- the number that stands in two octets, or in four, at a position of s
unfoldable pub two_at : List ℕ → ℕ → ℕ
two_at s at = get_or s at 0 * 256 + get_or s (at + 1) 0

unfoldable pub four_at : List ℕ → ℕ → ℕ
four_at s at = two_at s at * 65536 + two_at s (at + 2)

-- the two octets, or the four, of a number; of one that is too large, those of its rest
unfoldable pub two_octets : ℕ → List ℕ
two_octets n = n / 256 % 256 ∷ n % 256 ∷ []

unfoldable pub four_octets : ℕ → List ℕ
four_octets n = two_octets (n / 65536) ++ two_octets n
