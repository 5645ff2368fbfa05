-- Octets as pairs of hexadecimal digits of either case, or `-` for none. Assumes nothing.
use Rattle.std.specs.Prelude.{ℕ, ◌+◌, ◌-◌, ◌*◌, ◌%◌, Bool, not, ◌&&◌, List, [], ◌∷◌, Option, Some, None, ltb, eqb, length}
use Rattle.octets.specs.Pick.{pick}
use Rattle.octets.specs.Ascii.{octets}
use Rattle.octets.specs.Room.{overlay}
use Rattle.octets.specs.Classes.{within}
use Rattle.octets.specs.Counts.{all_in}
use Rattle.program_numbers.specs.Alike.{alike}

-- what a hexadecimal digit stands for, `0` to `9`, `A` to `F` or `a` to `f`; 16 for any other octet
unfoldable pub value : ℕ → ℕ
value b = pick (within 48 57 b) (b - 48) (pick (within 65 70 b) (b - 55) (pick (within 97 102 b) (b - 87) 16))

unfoldable pub hexed : ℕ → Bool
hexed b = ltb (value b) 16

-- the same, where an octet is a digit
unfoldable pub digit_of : ℕ → Option ℕ
digit_of b = pick (hexed b) (Some (value b)) None

-- one or more pairs of digits
unfoldable pub paired : List ℕ → Bool
paired w = not (eqb (length w) 0) && (not (eqb (length w % 2) 1) && all_in hexed w)

-- the octets of pairs of digits
unfoldable pub decoded : List ℕ → List ℕ
decoded [] = []
decoded (x ∷ []) = []
decoded (x ∷ y ∷ w) = (16 * value x + value y) ∷ decoded w

-- how many octets a word stands for, if for any, and what the room holds then
pub record Taken : Type 0 where
  pub answer : Option ℕ
  pub room : List ℕ

abbrev pub taken : Option ℕ → List ℕ → Taken
taken a room = record { answer = a; room = room }

-- octets are written to the front of the room, and are bad where it holds fewer
unfoldable pub stored : List ℕ → List ℕ → Taken
stored xs room = pick (ltb (length room) (length xs)) (taken None room) (taken (Some (length xs)) (overlay xs room))

-- the octets of a word, at the front of the room; a bad word leaves the room as it was
unfoldable pub octets_of : List ℕ → List ℕ → Taken
octets_of w room = pick (alike w (octets "-")) (stored [] room) (pick (paired w) (stored (decoded w) room) (taken None room))
