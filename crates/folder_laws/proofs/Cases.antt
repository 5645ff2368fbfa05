-- The examples of REFERENCE, Folding, computed: how long the pieces of a line are. Assumes nothing.
use mathlib.Core.Path.{◌≡◌, refl}
use mathlib.Core.List.{List, [], ◌∷◌, ◌++◌, map}
use Prim.Native.Nat.{ℕ}
use lib.ListN.{length, replicate}
use Rattle.utf8.specs.Characters.{char_length, length_by, rest, second, tail}
use Rattle.folder_line.specs.Pieces.{over, first, later, pieces, joined, folded}

abbrev ascii : ℕ → List ℕ
ascii n = replicate n 97

abbrev sizes : List ℕ → List ℕ
sizes l = map length (pieces l)

-- 75 octets are not cut, 76 give 81 with the folded line's end, a two-octet character over the edge goes to the next line whole
pub cases :
    (sizes (ascii 75) ≡ 75 ∷ [])
    × (length (folded (ascii 76)) ≡ 81)
    × (sizes (ascii 74 ++ (0xc3 ∷ 0xa9 ∷ [])) ≡ 74 ∷ 2 ∷ [])
    × (sizes (ascii 149) ≡ 75 ∷ 74 ∷ [])
    × (sizes (ascii 150) ≡ 75 ∷ 74 ∷ 1 ∷ [])
unfolding over first later pieces joined folded char_length length_by rest second tail
cases = (refl, refl, refl, refl, refl)
