-- Folding, by REFERENCE, Folding: a logical line is cut greedily, its first physical line has up to 75 octets, each later one a space and up
-- to 74, and every cut is at the last character boundary that fits. Assumes nothing.
use Rattle.std.specs.Prelude.{ℕ, pred, ◌≡◌, Bool, false, List, [], ◌∷◌, ◌++◌, ltb, length}
use Rattle.numbers.specs.Limits as limit
use Rattle.octets.specs.Pick.{pick}
use Rattle.utf8.specs.Characters.{char_length, allowed, first_bad}

-- a character starts here that does not fit the r octets left in the physical line; inside a character none starts
unfoldable pub over : List ℕ → ℕ → Bool
over l r = ltb r (char_length l)

-- what of the line goes to the physical line begun, where r octets are left: all before the first character that does not fit
unfoldable pub first : List ℕ → ℕ → List ℕ
first [] r = []
first (x ∷ xs) r = pick (over (x ∷ xs) r) [] (x ∷ first xs (pred r))

-- what is left of the room of a later physical line behind its first octet
abbrev pub behind_first : ℕ
behind_first = pred limit.later_line

-- the pieces behind that cut: the character that did not fit starts one, with room for 74 octets, of which its first octet takes one
unfoldable pub later : List ℕ → ℕ → List (List ℕ)
later [] r = []
later (x ∷ xs) r = pick (over (x ∷ xs) r) ((x ∷ first xs behind_first) ∷ later xs behind_first) (later xs (pred r))

-- a line from a place on where r octets are left in the physical line, cut
abbrev pub cut_from : List ℕ → ℕ → List (List ℕ)
cut_from l r = first l r ∷ later l r

-- the pieces of a logical line, one a physical line
unfoldable pub pieces : List ℕ → List (List ℕ)
pieces l = cut_from l limit.first_line

-- pieces joined by CR LF space
unfoldable pub joined : List (List ℕ) → List ℕ
joined [] = []
joined (p ∷ []) = p
joined (p ∷ q ∷ qs) = p ++ (13 ∷ 10 ∷ 32 ∷ joined (q ∷ qs))

-- a line folded, with its end
unfoldable pub folded : List ℕ → List ℕ
folded l = joined (pieces l) ++ (13 ∷ 10 ∷ [])

-- lines, each folded
unfoldable pub folded_lines : List (List ℕ) → List ℕ
folded_lines [] = []
folded_lines (l ∷ ls) = folded l ++ folded_lines ls

-- characters only, and no control but tab
unfoldable pub Clean : List ℕ → Type 0
Clean l = first_bad (allowed false) l ≡ length l

-- each line is P
unfoldable pub All : (List ℕ → Type 0) → List (List ℕ) → Type 0
All P [] = Unit {0}
All P (l ∷ ls) = P l × All P ls
