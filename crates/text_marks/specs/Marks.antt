-- The octets that escaping changes, by REFERENCE, Escaping: backslash, comma, semicolon and 0A. Assumes nothing.
use Rattle.std.specs.Prelude.{ℕ, Bool, ◌||◌, eqb}
use Rattle.octets.specs.Ascii as ascii

abbrev pub backslash : ℕ → Bool
backslash b = eqb b ascii.backslash

-- backslash, comma or semicolon
unfoldable pub special : ℕ → Bool
special b = backslash b || (eqb b ascii.comma || eqb b ascii.semicolon)

-- the octets that escaping changes: these and 0A
unfoldable pub marked : ℕ → Bool
marked b = special b || eqb b ascii.lf
