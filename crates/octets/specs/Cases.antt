-- Names without case. Letters are ASCII letters. Assumes nothing.
use Rattle.std.specs.Prelude.{ℕ, ◌+◌, Bool, true, false, ◌&&◌, List, [], ◌∷◌, eqb}
use Rattle.octets.specs.Pick.{pick}
use Rattle.octets.specs.Classes.{within}

-- a capital as its small letter, any other octet as it is
unfoldable pub lower : ℕ → ℕ
lower b = pick (within 65 90 b) (b + 32) b

-- equal without case
unfoldable pub same : List ℕ → List ℕ → Bool
same [] [] = true
same [] (y ∷ ys) = false
same (x ∷ xs) [] = false
same (x ∷ xs) (y ∷ ys) = eqb (lower x) (lower y) && same xs ys
