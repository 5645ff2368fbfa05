-- The sets of octets from which REFERENCE, The kinds of value builds the values of properties. Assumes nothing.
use Rattle.std.specs.Prelude.{ℕ, ◌-◌, ◌%◌, Bool, true, false, not, ◌&&◌, ◌||◌, List, [], ◌∷◌, eqb}
use Prim.Native.Char.{Char, code}
use Rattle.octets.specs.Classes.{within, letter as is_letter, digit as is_digit}
use Rattle.octets.specs.Cases.{lower}

pub data Octets : Type 0 where
  any plain inner escapee backslash comma semicolon colon letter scheme graphic digit sex : Octets
  the_v the_c the_a the_r the_d four point nought the_t the_z minus sign : Octets
  -- the last digit of a number, and the digits of a list; so the set has one at least
  figures : ℕ → List ℕ → Octets

-- the octet b is the character c
abbrev pub is : Char → ℕ → Bool
is c b = eqb b (code c)

-- the octet b is the letter c in either case
abbrev pub like : Char → ℕ → Bool
like c b = eqb (lower b) (lower (code c))

-- the octet x is neither a nor b
abbrev pub neither : ℕ → ℕ → ℕ → Bool
neither a b x = not (eqb x a) && not (eqb x b)

-- the number d is in the list
unfoldable pub among : ℕ → List ℕ → Bool
among d [] = false
among d (x ∷ xs) = eqb d x || among d xs

unfoldable pub holds : Octets → ℕ → Bool
holds any b = true
holds plain b = not (is "\\" b) && not (is "," b)
holds inner b = not (is "\\" b) && (not (is "," b) && not (is ";" b))
holds escapee b = is "\\" b || (is "," b || (is ";" b || (is "n" b || is "N" b)))
holds backslash b = is "\\" b
holds comma b = is "," b
holds semicolon b = is ";" b
holds colon b = is ":" b
holds letter b = is_letter b
holds scheme b = is_letter b || (is_digit b || (is "+" b || (is "-" b || is "." b)))
holds graphic b = within 0x21 0x7e b
holds digit b = is_digit b
holds sex b = like "M" b || (like "F" b || (like "O" b || (like "N" b || like "U" b)))
holds the_v b = like "V" b
holds the_c b = like "C" b
holds the_a b = like "A" b
holds the_r b = like "R" b
holds the_d b = like "D" b
holds four b = is "4" b
holds point b = is "." b
holds nought b = is "0" b
holds the_t b = is "T" b
holds the_z b = is "Z" b
holds minus b = is "-" b
holds sign b = is "+" b || is "-" b
holds (figures d ds) b = is_digit b && among (b - 48) (d % 10 ∷ ds)
