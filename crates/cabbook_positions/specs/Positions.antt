-- Positions in a text as a person counts them: lines by LF, and the last position up to a place at which a line or a character starts.
-- Assumes nothing.
use Rattle.std.specs.Prelude.{ℕ, zero, suc, ◌+◌, ◌-◌, Bool, not, ◌&&◌, ◌||◌, List, [], ◌∷◌, eqb, get_or}
use Rattle.octets.specs.Pick.{pick}
use Rattle.utf8.specs.Characters.{tail}

-- how many of the octets pass a test
unfoldable pub count : (ℕ → Bool) → List ℕ → ℕ
count p [] = 0
count p (x ∷ xs) = pick (p x) 1 0 + count p xs

abbrev pub is_lf : ℕ → Bool
is_lf x = eqb x 10

-- an octet with which a character starts
abbrev pub is_first : ℕ → Bool
is_first x = not (tail x)

-- the last place up to a place that passes a test, or 0
unfoldable pub back_to : (ℕ → Bool) → ℕ → ℕ
back_to p zero = 0
back_to p (suc k) = pick (p (suc k)) (suc k) (back_to p k)

-- a logical line starts at i, which is not 0: CR LF stands before it, and no space or tab at it
abbrev pub opens : List ℕ → ℕ → Bool
opens s i = (eqb (get_or s (i - 1) 0) 10 && eqb (get_or s (i - 2) 0) 13) && not (eqb (get_or s i 0) 32 || eqb (get_or s i 0) 9)

-- a physical line starts at i, which is not 0: LF stands before it
abbrev pub begins : List ℕ → ℕ → Bool
begins s i = is_lf (get_or s (i - 1) 0)

-- a character starts at i
abbrev pub starts : List ℕ → ℕ → Bool
starts s i = is_first (get_or s i 0)
