-- The words of a line, split by single spaces, and the line without a CR at its end. Assumes nothing.
use Rattle.std.specs.Prelude.{ℕ, ◌+◌, ◌-◌, Bool, true, false, not, List, [], ◌∷◌, ◌++◌, eqb, length, get_or, take, drop}
use Rattle.octets.specs.Pick.{pick}
use Rattle.octets.specs.Classes.{run}

abbrev pub other : ℕ → ℕ → Bool
other b x = not (eqb x b)

-- the place of the first octet b from a place on, or the length where there is none; a place past the length stays as it is
unfoldable pub next_of : ℕ → List ℕ → ℕ → ℕ
next_of b s from = from + run (other b) (drop from s)

-- the words with an octet before them: a space starts a new word, any other octet belongs to the first
abbrev pub before : Bool → ℕ → List (List ℕ) → List (List ℕ)
before true x ws = [] ∷ ws
before false x [] = (x ∷ []) ∷ []
before false x (w ∷ ws) = (x ∷ w) ∷ ws

-- the words of a line: one more than it has spaces
unfoldable pub words_of : List ℕ → List (List ℕ)
words_of [] = [] ∷ []
words_of (x ∷ xs) = before (eqb x 32) x (words_of xs)

-- word k, from 0 on, or nothing where there are not so many
unfoldable pub word_at : List ℕ → ℕ → List ℕ
word_at s k = get_or (words_of s) k []

-- words joined by single spaces
unfoldable pub joined : List (List ℕ) → List ℕ
joined [] = []
joined (w ∷ []) = w
joined (w ∷ v ∷ ws) = w ++ (32 ∷ joined (v ∷ ws))

-- the line without its last octet where that is a CR, any other line as it is
unfoldable pub without_cr : List ℕ → List ℕ
without_cr l = pick (eqb (get_or l (length l - 1) 0) 13) (take (length l - 1) l) l
