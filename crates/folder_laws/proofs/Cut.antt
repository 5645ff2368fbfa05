-- A greedy cutting by the length of characters, as the pieces are found. Assumes nothing.
use Prim.Native.Nat.{ℕ, ◌+◌, ◌<◌}
use mathlib.Core.Path.{◌≡◌}
use mathlib.Core.List.{List, [], ◌∷◌, flatten}
use lib.ListN.{length}
use Rattle.utf8.specs.Characters.{char_length}
use Rattle.folder_line.specs.Pieces.{Clean, All}
use Rattle.folder_laws.specs.Cuttings.{UpTo}

-- p has room for r octets, and the first character behind it does not fit
abbrev pub Tight : ℕ → List ℕ → List (List ℕ) → Type 0
Tight r p [] = Unit {0}
Tight r p (q ∷ qs) = r < length p + char_length q

unfoldable pub AllTight : List (List ℕ) → Type 0
AllTight [] = Unit {0}
AllTight (p ∷ ps) = Tight 74 p ps × AllTight ps

pub record Cut (l p : List ℕ) (ps : List (List ℕ)) : Type 0 where
  pub whole : flatten (p ∷ ps) ≡ l
  pub clean : All Clean (p ∷ ps)
  pub start : UpTo 75 p
  pub others : All (UpTo 74) ps
  pub full : Tight 75 p ps
  pub fulls : AllTight ps
