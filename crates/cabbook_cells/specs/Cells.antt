-- How wide a terminal shows a text: the cells of each character, and blanks of that width. Assumes nothing.
use Rattle.std.specs.Prelude.{ℕ, ◌+◌, ◌*◌, ◌%◌, List, [], ◌∷◌, eqb, ltb, get_or, replicate}
use Rattle.octets.specs.Pick.{pick}
use Rattle.octets.specs.Scan.{gather}
use Rattle.program_visible.specs.Visible.{character, passed}
use Rattle.cabbook_cells.specs.Ranges.{ranges, cells_in}

-- a code point so far, with the six bits of the next octet
abbrev pub joined : ℕ → ℕ → ℕ
joined code octet = code * 64 + octet % 64

-- RFC 3629, section 3: the code point of a character of n octets that starts with a, b, c and d
abbrev pub code_by : ℕ → ℕ → ℕ → ℕ → ℕ → ℕ
code_by n a b c d =
    pick (ltb n 2) a
    (pick (eqb n 2) (joined (a % 32) b)
    (pick (eqb n 3) (joined (joined (a % 16) b) c) (joined (joined (joined (a % 8) b) c) d)))

-- of the character of n octets with which a list starts
unfoldable pub code_of : ℕ → List ℕ → ℕ
code_of n l = code_by n (get_or l 0 0) (get_or l 1 0) (get_or l 2 0) (get_or l 3 0)

-- what is shown of the octets with which a list starts, as blanks: an octet in digits has four cells, a tab goes as far as a tab does, and a
-- character has its own cells
unfoldable pub blank : List ℕ → List ℕ
blank l =
    pick (eqb (character l) 0) (replicate 4 32)
    (pick (eqb (get_or l 0 0) 9) (9 ∷ []) (replicate (cells_in ranges (code_of (character l) l)) 32))

-- as wide as a text is shown
unfoldable pub blanks : List ℕ → List ℕ
blanks l = gather passed blank l 0
