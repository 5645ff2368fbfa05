-- Where a component of a value ends, how many parts a value has, and whether an escape is open. Assumes nothing.
use Rattle.std.specs.Prelude.{ℕ, ◌+◌, Bool, false, ◌&&◌, ◌||◌, List, [], ◌∷◌, eqb, ltb, length, get_or}
use Rattle.octets.specs.Pick.{pick}
use Rattle.octets.specs.Scan.{scan}

-- at an octet with which n octets start: a comma, or a semicolon where these split too, ends the component, and a backslash is passed
-- with the octet after it
abbrev pub bare_at : Bool → ℕ → ℕ → ℕ
bare_at semicolons x n = pick (eqb x 44 || (eqb x 59 && semicolons)) 0 (pick (eqb x 92 && ltb 1 n) 2 1)

unfoldable pub bare_step : Bool → List ℕ → ℕ
bare_step semicolons l = bare_at semicolons (get_or l 0 0) (length l)

-- the length of the component with which a value starts
unfoldable pub bare_length : Bool → List ℕ → ℕ
bare_length semicolons l = scan (bare_step semicolons) l 0

-- after an octet a backslash waits for the next: it is one, and none waited for it
abbrev pub opened : Bool → ℕ → Bool
opened waits x = pick waits false (eqb x 92)

-- after these octets a backslash waits for the next, where one did before them or not
unfoldable pub open_after : Bool → List ℕ → Bool
open_after waits [] = waits
open_after waits (x ∷ xs) = open_after (opened waits x) xs

-- an octet splits a value: a semicolon for which no backslash waits
abbrev pub split_at : Bool → ℕ → ℕ
split_at waits x = pick waits 0 (pick (eqb x 59) 1 0)

-- how many octets split a value, where a backslash waits before them or not
unfoldable pub splits : Bool → List ℕ → ℕ
splits waits [] = 0
splits waits (x ∷ xs) = split_at waits x + splits (opened waits x) xs
