-- The physical lines of octets, read off the octets alone. Assumes nothing.
use Rattle.std.specs.Prelude.{ℕ, List, [], ◌∷◌, eqb}
use Rattle.octets.specs.Pick.{pick}

-- what stands before the first CR
unfoldable pub upto : List ℕ → List ℕ
upto [] = []
upto (x ∷ xs) = pick (eqb x 13) [] (x ∷ upto xs)

-- what stands behind each LF, up to the next CR
unfoldable pub behind : List ℕ → List (List ℕ)
behind [] = []
behind (x ∷ xs) = pick (eqb x 10) (upto xs ∷ behind xs) (behind xs)

-- the physical lines; behind the last CR LF stands one more, which is empty
unfoldable pub physical : List ℕ → List (List ℕ)
physical l = upto l ∷ behind l
