-- The classes of an octet, by REFERENCE, The line rule and RFC 6350, section 3.3, and the longest run of octets of a class.
-- Assumes nothing.
use Rattle.std.specs.Prelude.{ℕ, suc, ◌+◌, ◌<◌, ◌≡◌, Bool, true, false, not, ◌&&◌, ◌||◌, List, [], ◌∷◌, leb, eqb, get_or}
use Rattle.std.specs.Int.Bits.{bit_and}
use Rattle.octets.specs.Ascii as ascii

abbrev pub within : ℕ → ℕ → ℕ → Bool
within lo hi b = leb lo b && leb b hi

-- A to Z and a to z
unfoldable pub letter : ℕ → Bool
letter b = within 65 90 b || within 97 122 b

-- 0 to 9
unfoldable pub digit : ℕ → Bool
digit b = within 48 57 b

unfoldable pub hyphen : ℕ → Bool
hyphen b = eqb b ascii.hyphen

-- an octet of a property value (VALUE-CHAR): tab, 20-7E, and 80 and above
unfoldable pub valued : ℕ → Bool
valued b = eqb b ascii.tab || (within 0x20 0x7e b || leb 0x80 b)

-- an octet between quote marks: any of a value but the quote mark
unfoldable pub quoted : ℕ → Bool
quoted b = valued b && not (eqb b ascii.quote)

-- an octet of a bare value: none of the quote mark, `,`, `:` and `;`
unfoldable pub bare : ℕ → Bool
bare b = quoted b && not (eqb b ascii.comma || (eqb b ascii.colon || eqb b ascii.semicolon))

-- an octet of a group, a name or a parameter name
unfoldable pub named : ℕ → Bool
named b = letter b || (digit b || hyphen b)

abbrev pub bit : Bool → ℕ → ℕ
bit true n = n
bit false n = 0

abbrev pub mask : Bool → Bool → Bool → Bool → Bool → Bool → ℕ
mask l d h b q v = bit l 1 + (bit d 2 + (bit h 4 + (bit b 8 + (bit q 16 + bit v 32))))

-- the masks of an octet of a name, of a bare value, between quote marks, and of a property value
abbrev pub name_mask : ℕ
name_mask = 7

abbrev pub bare_mask : ℕ
bare_mask = 8

abbrev pub quoted_mask : ℕ
quoted_mask = 16

abbrev pub value_mask : ℕ
value_mask = 32

-- the class mask of an octet
unfoldable pub class_of : ℕ → ℕ
class_of b = mask (letter b) (digit b) (hyphen b) (bare b) (quoted b) (valued b)

-- the table agrees with the rule at each octet
unfoldable pub Classes : List ℕ → Type 0
Classes t = (k : ℕ) → k < 256 → get_or t k 0 ≡ class_of k

-- an octet has one of the classes of a mask
unfoldable pub has : ℕ → ℕ → Bool
has m b = not (eqb (bit_and (class_of b) m) 0)

abbrev pub more : Bool → ℕ → ℕ
more true n = suc n
more false n = 0

-- how many octets from the start satisfy the test
unfoldable pub run : (ℕ → Bool) → List ℕ → ℕ
run p [] = 0
run p (x ∷ xs) = more (p x) (run p xs)
