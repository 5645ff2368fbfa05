-- Escaping, by REFERENCE, Escaping: backslash, comma and semicolon get a backslash, 0A becomes `\n`. Assumes nothing.
use Rattle.std.specs.Prelude.{ℕ, ◌≡◌, List, [], ◌∷◌, ◌++◌, eqb, get_or}
use Rattle.octets.specs.Ascii as ascii
use Rattle.octets.specs.Pick.{pick}
use Rattle.text_marks.specs.Marks.{marked}

-- what follows the backslash where an octet is escaped: `n` for 0A, else the octet itself
unfoldable pub letter : ℕ → ℕ
letter b = pick (eqb b ascii.lf) ascii.small_n b

-- what escaping writes for an octet
unfoldable pub in_escape : ℕ → List ℕ
in_escape b = pick (marked b) (ascii.backslash ∷ letter b ∷ []) (b ∷ [])

-- a table has the letters, and 0 for an octet that stays as it is
unfoldable pub Letters : List ℕ → Type 0
Letters t = (k : ℕ) → get_or t k 0 ≡ pick (marked k) (letter k) 0

-- a text with each octet so written
unfoldable pub escaped : List ℕ → List ℕ
escaped [] = []
escaped (x ∷ xs) = in_escape x ++ escaped xs
