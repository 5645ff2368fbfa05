-- Text with its controls, characters that a terminal hides or obeys, and octets that start no character, made visible. Assumes nothing.
use Rattle.std.specs.Prelude.{ℕ, Bool, true, false, List, ◌∷◌, eqb, get_or, take}
use Rattle.octets.specs.Pick.{pick}
use Rattle.octets.specs.Scan.{gather}
use Rattle.octets.specs.Classes.{within}
use Rattle.utf8.specs.Characters.{allowed, unit}
use Rattle.program_output.specs.Digits.{pair}

-- `\x` and an octet's two digits
abbrev pub in_hex : ℕ → List ℕ
in_hex b = 92 ∷ 120 ∷ pair b

-- after C2: the controls from U+0080 to U+009F, and the soft hyphen
unfoldable pub hidden_control : ℕ → Bool
hidden_control b = pick (eqb b 0xad) true (within 0x80 0x9f b)

-- after E2: U+200B to U+200F and U+2028 to U+202E, and U+2060 to U+206F
unfoldable pub hidden_space : ℕ → ℕ → Bool
hidden_space b c =
    pick (eqb b 0x81) (within 0xa0 0xaf c) (pick (eqb b 0x80) (pick (within 0x8b 0x8f c) true (within 0xa8 0xae c)) false)

-- after EF: U+FEFF, and U+FFF9 to U+FFFB
unfoldable pub hidden_mark : ℕ → ℕ → Bool
hidden_mark b c = pick (eqb b 0xbb) (eqb c 0xbf) (pick (eqb b 0xbf) (within 0xb9 0xbb c) false)

-- after F3: U+E0000 to U+E007F
unfoldable pub hidden_tag : ℕ → ℕ → Bool
hidden_tag b c = pick (eqb b 0xa0) (within 0x80 0x81 c) false

-- a character that starts with these octets is hidden; after D8: U+061C
unfoldable pub hidden : ℕ → ℕ → ℕ → Bool
hidden a b c =
    pick (eqb a 0xc2) (hidden_control b)
    (pick (eqb a 0xd8) (eqb b 0x9c)
    (pick (eqb a 0xe2) (hidden_space b c)
    (pick (eqb a 0xef) (hidden_mark b c) (pick (eqb a 0xf3) (hidden_tag b c) false))))

-- the length of the character with which a list starts, 0 where it starts with a control, a hidden character or none
unfoldable pub character : List ℕ → ℕ
character l = pick (hidden (get_or l 0 0) (get_or l 1 0) (get_or l 2 0)) 0 (unit (allowed false) l)

-- a character is passed whole, any other octet alone
unfoldable pub passed : List ℕ → ℕ
passed l = pick (eqb (character l) 0) 1 (character l)

-- a character stands for itself, any other octet is written in digits
unfoldable pub standing : List ℕ → List ℕ
standing l = pick (eqb (character l) 0) (in_hex (get_or l 0 0)) (take (character l) l)

-- a text so written
unfoldable pub visible : List ℕ → List ℕ
visible l = gather passed standing l 0
