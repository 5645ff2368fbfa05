-- Room before a call, and whether it is as it was. Assumes nothing.
use Rattle.std.specs.Prelude.{ℕ, Bool, true, false, List, [], ◌∷◌, eqb, replicate}
use Rattle.octets.specs.Pick.{pick}

-- what each octet of room is before a call
abbrev pub octet_fill : ℕ
octet_fill = 165

-- what each number of room is before a call
abbrev pub number_fill : ℕ
number_fill = 2779096485

-- the most octets or numbers of room that a request may ask for
abbrev pub most_room : ℕ
most_room = 70000

-- room for so many octets, and for so many numbers
abbrev pub octet_room : ℕ → List ℕ
octet_room n = replicate n octet_fill

abbrev pub number_room : ℕ → List ℕ
number_room n = replicate n number_fill

-- whether every element is v
unfoldable pub all : ℕ → List ℕ → Bool
all v [] = true
all v (x ∷ xs) = pick (eqb x v) (all v xs) false

-- octets and numbers are all as before the call
abbrev pub both_kept : List ℕ → List ℕ → Bool
both_kept xs ns = pick (all octet_fill xs) (all number_fill ns) false
