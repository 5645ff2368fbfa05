-- RFC 3629, section 4: the length of the character at the start of a text, and the first octet of a text that is not allowed or
-- starts no character. Assumes nothing.
use Rattle.std.specs.Prelude.{ℕ, Bool, ◌&&◌, ◌||◌, List, leb, ltb, eqb, length, get_or}
use Rattle.octets.specs.Ascii as ascii
use Rattle.octets.specs.Pick.{pick}
use Rattle.octets.specs.Scan.{scan}
use Rattle.octets.specs.Classes.{within, valued}

-- how many octets a character has that starts with b: 00-7F 1, C2-DF 2, E0-EF 3, F0-F4 4; no other octet starts one
unfoldable pub length_by : ℕ → ℕ
length_by b = pick (ltb b 0x80) 1 (pick (ltb b 0xc2) 0 (pick (ltb b 0xe0) 2 (pick (ltb b 0xf0) 3 (pick (ltb b 0xf5) 4 0))))

-- the second octet: after E0 A0-BF, after ED 80-9F, after F0 90-BF, after F4 80-8F, else 80-BF
unfoldable pub second : ℕ → ℕ → Bool
second b c =
    pick (eqb b 0xe0) (within 0xa0 0xbf c)
    (pick (eqb b 0xed) (within 0x80 0x9f c)
    (pick (eqb b 0xf0) (within 0x90 0xbf c)
    (pick (eqb b 0xf4) (within 0x80 0x8f c) (within 0x80 0xbf c))))

-- UTF8-tail
unfoldable pub tail : ℕ → Bool
tail c = within 0x80 0xbf c

-- each octet after the first that a character of n octets has is as it should be
unfoldable pub rest : ℕ → List ℕ → Bool
rest n l =
    (ltb n 2 || second (get_or l 0 0) (get_or l 1 0)) && ((ltb n 3 || tail (get_or l 2 0)) && (ltb n 4 || tail (get_or l 3 0)))

-- the length of the character at the start of a list; 0 where none stands there
unfoldable pub char_length : List ℕ → ℕ
char_length l = pick (leb (length_by (get_or l 0 0)) (length l) && rest (length_by (get_or l 0 0)) l) (length_by (get_or l 0 0)) 0

-- the octets that a text may have: those of a value, and LF where it is allowed
unfoldable pub allowed : Bool → ℕ → Bool
allowed lf b = valued b || (lf && eqb b ascii.lf)

-- the length of the character at the start of a list, where an octet that p forbids counts as none
unfoldable pub unit : (ℕ → Bool) → List ℕ → ℕ
unit p l = pick (p (get_or l 0 0)) (char_length l) 0

-- the offset of the first octet that p forbids or that starts no character; the length where there is none
unfoldable pub first_bad : (ℕ → Bool) → List ℕ → ℕ
first_bad p l = scan (unit p) l 0
