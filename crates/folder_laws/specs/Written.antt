-- What holds of octets that are the folded form of logical lines. Assumes nothing.
use Rattle.std.specs.Prelude.{ℕ, ◌≡◌, List}
use Rattle.numbers.specs.Limits as limit
use Rattle.line_laws.specs.Lined.{Lined}
use Rattle.utf8.specs.Rfc3629.{Characters}
use Rattle.folder_line.specs.Pieces.{folded_lines, All}
use Rattle.folder_laws.specs.Cuttings.{UpTo}
use Rattle.folder_laws.specs.Physical.{physical}

-- t are the octets, ls the logical lines
pub record Folds (ls : List (List ℕ)) (t : List ℕ) : Type 0 where
  -- each physical line has at most 75 octets
  pub short : All (UpTo limit.first_line) (physical t)
  -- each is whole characters, so that every cut is at a character boundary
  pub whole : All Characters (physical t)
  -- read again, the octets have the same logical lines
  pub back : (rs : List (List ℕ)) × Lined t rs ls
  -- folded again, they are the same octets
  pub again : folded_lines ls ≡ t
