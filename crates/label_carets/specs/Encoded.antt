-- A value as a label, by REFERENCE, Labels: RFC 6350 changes nothing, RFC 6868 writes a newline, a quote mark and a caret as a pair. Assumes nothing.
use Rattle.std.specs.Prelude.{ℕ, ◌≡◌, Bool, List, [], ◌∷◌, ◌++◌, eqb, get_or}
use Rattle.octets.specs.Ascii as ascii
use Rattle.octets.specs.Pick.{pick}
use Rattle.label_marks.specs.Seen.{mark}
use Rattle.label_carets.specs.declared.Rule.{Rule}
use Rattle.label_carets.specs.declared.Rule.TheVariants.{Rfc6350, Rfc6868}

-- the octets that RFC 6868 writes as a pair: caret, newline, quote mark
abbrev pub marked : ℕ → Bool
marked b = mark ascii.lf ascii.quote b

-- what follows the caret of the pair: `n` for a newline, an apostrophe for a quote mark, a caret for a caret
unfoldable pub letter : ℕ → ℕ
letter b = pick (eqb b ascii.lf) ascii.small_n (pick (eqb b ascii.quote) ascii.apostrophe b)

-- what a rule writes for an octet
abbrev pub in_label : Rule → ℕ → List ℕ
in_label Rfc6350 b = b ∷ []
in_label Rfc6868 b = pick (marked b) (ascii.caret ∷ letter b ∷ []) (b ∷ [])

-- a value as a label
unfoldable pub encoded : Rule → List ℕ → List ℕ
encoded r [] = []
encoded r (x ∷ xs) = in_label r x ++ encoded r xs

-- a table has the letters, and 0 for an octet that stays as it is
unfoldable pub Letters : List ℕ → Type 0
Letters t = (k : ℕ) → get_or t k 0 ≡ pick (marked k) (letter k) 0
