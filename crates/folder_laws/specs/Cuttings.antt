-- What a greedy cutting of a logical line is, by REFERENCE, Folding and RFC 3629's grammar, whatever finds it. Assumes nothing.
use Rattle.std.specs.Prelude.{ℕ, ◌+◌, ◌<◌, ◌≤◌, ◌≡◌, length}
use mathlib.Core.List.{List, [], ◌∷◌, flatten}
use Rattle.numbers.specs.Limits as limit
use Rattle.utf8.specs.Rfc3629.{Characters}
use Rattle.utf8_laws.specs.Texts.{Begins}
use Rattle.folder_line.specs.Pieces.{All}

-- a line of at most n octets
abbrev pub UpTo : ℕ → List ℕ → Type 0
UpTo n l = length l ≤ n

-- p has room for r octets, and is cut at the last character boundary that fits: the character that stands first behind it does not fit
abbrev pub Full : ℕ → List ℕ → List (List ℕ) → Type 0
Full r p [] = Unit {0}
Full r p (q ∷ qs) = (c : List ℕ) × Begins q c × (r < length p + length c)

-- each of the later pieces is cut so
unfoldable pub AllFull : List (List ℕ) → Type 0
AllFull [] = Unit {0}
AllFull (p ∷ ps) = Full limit.later_line p ps × AllFull ps

-- the first piece p of a line, and the later ones ps
pub record Cutting (l p : List ℕ) (ps : List (List ℕ)) : Type 0 where
  -- no octet is lost, none is added
  pub whole : flatten (p ∷ ps) ≡ l
  -- every cut is at a character boundary
  pub characters : All Characters (p ∷ ps)
  -- the first physical line has up to 75 octets, each later one up to 74 behind its space
  pub start : UpTo limit.first_line p
  pub others : All (UpTo limit.later_line) ps
  -- every cut is at the last boundary that fits
  pub full : Full limit.first_line p ps
  pub fulls : AllFull ps
