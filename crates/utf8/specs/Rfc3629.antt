-- RFC 3629, section 4, as its grammar has it: which octet sequences are characters. Assumes nothing.
use Rattle.std.specs.Prelude.{ℕ, ◌≡◌, true, List, [], ◌∷◌, ◌++◌}
use Rattle.octets.specs.Classes.{within}

-- an octet of a range, as %x80-BF
abbrev pub In : ℕ → ℕ → ℕ → Type 0
In low high b = within low high b ≡ true

-- UTF8-char: each constructor is one line of the grammar
pub data Character : List ℕ → Type 0 where
  utf8_1 : {a : ℕ} → In 0x00 0x7f a → Character (a ∷ [])
  utf8_2 : {a b : ℕ} → In 0xc2 0xdf a → In 0x80 0xbf b → Character (a ∷ b ∷ [])
  utf8_3_e0 : {b c : ℕ} → In 0xa0 0xbf b → In 0x80 0xbf c → Character (0xe0 ∷ b ∷ c ∷ [])
  utf8_3_low : {a b c : ℕ} → In 0xe1 0xec a → In 0x80 0xbf b → In 0x80 0xbf c → Character (a ∷ b ∷ c ∷ [])
  utf8_3_ed : {b c : ℕ} → In 0x80 0x9f b → In 0x80 0xbf c → Character (0xed ∷ b ∷ c ∷ [])
  utf8_3_high : {a b c : ℕ} → In 0xee 0xef a → In 0x80 0xbf b → In 0x80 0xbf c → Character (a ∷ b ∷ c ∷ [])
  utf8_4_f0 : {b c d : ℕ} → In 0x90 0xbf b → In 0x80 0xbf c → In 0x80 0xbf d → Character (0xf0 ∷ b ∷ c ∷ d ∷ [])
  utf8_4_mid : {a b c d : ℕ} → In 0xf1 0xf3 a → In 0x80 0xbf b → In 0x80 0xbf c → In 0x80 0xbf d → Character (a ∷ b ∷ c ∷ d ∷ [])
  utf8_4_f4 : {b c d : ℕ} → In 0x80 0x8f b → In 0x80 0xbf c → In 0x80 0xbf d → Character (0xf4 ∷ b ∷ c ∷ d ∷ [])

-- UTF8-octets: any number of characters
pub data Characters : List ℕ → Type 0 where
  none : Characters []
  more : {c l : List ℕ} → Character c → Characters l → Characters (c ++ l)
