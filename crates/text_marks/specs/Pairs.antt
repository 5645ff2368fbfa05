-- A text whose commas, backslashes and octets after a backslash can each be told by the octet before: it has no escaped backslash.
-- Assumes nothing.
use Rattle.std.specs.Prelude.{ℕ, Bool, not, ◌&&◌, ◌||◌, List, [], ◌∷◌, eqb}
use Rattle.octets.specs.Ascii as ascii
use Rattle.text_marks.specs.Marks.{backslash}

-- what ends an escape and is no backslash itself
abbrev pub coded : ℕ → Bool
coded b = (eqb b ascii.comma || eqb b ascii.semicolon) || (eqb b ascii.small_n || eqb b ascii.capital_n)

-- after a backslash, what is not coded; after any other octet, a comma, unless commas part the texts of a list
unfoldable pub unsettled : Bool → ℕ → ℕ → Bool
unsettled listed before b = (backslash before && not (coded b)) || (not (backslash before) && (eqb b ascii.comma && not listed))

-- no octet is so, and the last one is no backslash
unfoldable pub settled : Bool → ℕ → List ℕ → Bool
settled listed before [] = not (backslash before)
settled listed before (x ∷ xs) = not (unsettled listed before x) && settled listed x xs
