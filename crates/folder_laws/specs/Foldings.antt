-- What any folding of a logical line is, whatever chose the cuts, by its parts and by its octets; by REFERENCE, Folding. Assumes nothing.
use Rattle.std.specs.Prelude.{ℕ, ◌≡◌}
use mathlib.Core.List.{List, ◌∷◌, flatten}
use Rattle.numbers.specs.Limits as limit
use Rattle.utf8.specs.Rfc3629.{Characters}
use Rattle.line_laws.specs.Lined.{Folded}
use Rattle.folder_line.specs.Pieces.{All}
use Rattle.folder_laws.specs.Cuttings.{UpTo}
use Rattle.folder_laws.specs.Physical.{physical}

-- the first part q of a line, and the later ones qs, each of which stands behind a space or a tab; a part may be empty
pub record Parts (l q : List ℕ) (qs : List (List ℕ)) : Type 0 where
  -- no octet is lost, none is added
  pub whole : flatten (q ∷ qs) ≡ l
  -- every cut is between characters
  pub characters : All Characters (q ∷ qs)
  -- a physical line has up to 75 octets, of which a later part's space or tab takes one
  pub start : UpTo limit.first_line q
  pub others : All (UpTo limit.later_line) qs

-- octets in physical lines of at most 75 octets, a later one's space or tab counted and its CR LF not, cut between characters
pub record Billed (t : List ℕ) : Type 0 where
  pub short : All (UpTo limit.first_line) (physical t)
  pub whole : All Characters (physical t)

-- t is the line l with folds in it, wherever, each with a space or a tab and perhaps nothing behind it, in such physical lines
pub record Folding (l t : List ℕ) : Type 0 where
  pub folds : Folded l t
  pub lines : Billed t
