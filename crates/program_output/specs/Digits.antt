-- Numbers in decimal digits, and an octet in two hexadecimal ones. Assumes nothing.
use Rattle.std.specs.Prelude.{ℕ, zero, suc, ◌+◌, ◌/◌, ◌%◌, cond, nat_lt, List, [], ◌∷◌, ◌++◌, ltb}
use Rattle.octets.specs.Pick.{pick}

-- the ASCII code of a digit below 16: `0` to `9`, then `a` to `f`
abbrev pub hex_digit_ascii : ℕ → ℕ
hex_digit_ascii d = cond (nat_lt d 10) (48 + d) (87 + d)

-- the decimal digits of a number that has at most so many
unfoldable pub decimal_in : ℕ → ℕ → List ℕ
decimal_in zero n = []
decimal_in (suc k) n = pick (ltb n 10) (hex_digit_ascii n ∷ []) (decimal_in k (n / 10) ++ (hex_digit_ascii (n % 10) ∷ []))

-- no number of 64 bits has over 20
unfoldable pub decimal : ℕ → List ℕ
decimal n = decimal_in 20 n

-- an octet's two hexadecimal digits
abbrev pub pair : ℕ → List ℕ
pair x = hex_digit_ascii (x / 16) ∷ hex_digit_ascii (x % 16) ∷ []
