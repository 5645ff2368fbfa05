-- Numbers in decimal digits. Assumes nothing.
use Rattle.std.specs.Prelude.{ℕ, ◌+◌, ◌-◌, ◌*◌, Bool, ◌&&◌, List, [], ◌∷◌, Option, Some, None, leb, ltb, eqb, length}
use Rattle.numbers.specs.Limits as limit
use Rattle.octets.specs.Pick.{pick}
use Rattle.octets.specs.Classes.{within}
use Rattle.octets.specs.Counts.{all_in}

-- what a decimal digit stands for, or 10
unfoldable pub ones : ℕ → ℕ
ones b = pick (within 48 57 b) (b - 48) 10

unfoldable pub digit : ℕ → Bool
digit b = ltb (ones b) 10

-- the same, where an octet is a digit
unfoldable pub digit_of : ℕ → Option ℕ
digit_of b = pick (digit b) (Some (ones b)) None

-- the number whose digits are those of n and then these
unfoldable pub value_from : ℕ → List ℕ → ℕ
value_from n [] = n
value_from n (x ∷ xs) = value_from (10 * n + ones x) xs

-- the digits of n and then these, where they are digits and the number fits
unfoldable pub number_from : ℕ → List ℕ → Option ℕ
number_from n w = pick (all_in digit w && leb (value_from n w) limit.largest64) (Some (value_from n w)) None

-- one or more decimal digits whose number fits 64 bits
unfoldable pub number_of : List ℕ → Option ℕ
number_of w = pick (eqb (length w) 0) None (number_from 0 w)
