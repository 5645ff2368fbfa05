-- Text unescaped and escaped anew, octet by octet: `\N` becomes `\n`, and where a semicolon parts nothing a bare one becomes `\;`; all else
-- stays. A backslash takes the next octet along. Assumes nothing.
use Rattle.std.specs.Prelude.{ℕ, Bool, not, ◌&&◌, List, [], ◌∷◌, eqb, ltb, length, get_or}
use Rattle.octets.specs.Ascii as ascii
use Rattle.octets.specs.Pick.{pick}
use Rattle.octets.specs.Scan.{gather}

-- a backslash stands here, and an octet after it
unfoldable pub pair_at : List ℕ → Bool
pair_at l = eqb (get_or l 0 0) ascii.backslash && ltb 1 (length l)

-- what follows the backslash of an escape that is written anew
unfoldable pub small : ℕ → ℕ
small b = pick (eqb b ascii.capital_n) ascii.small_n b

-- neither a backslash nor a semicolon
unfoldable pub unmarked : ℕ → Bool
unmarked b = not (eqb b ascii.backslash) && not (eqb b ascii.semicolon)

-- how many octets the escape or the octet has that stands here
unfoldable pub passed : List ℕ → ℕ
passed l = pick (pair_at l) 2 1

-- a bare semicolon stands here
unfoldable pub bare_at : List ℕ → Bool
bare_at l = eqb (get_or l 0 0) ascii.semicolon

-- what is written for it; whole: a semicolon parts nothing
unfoldable pub anew : Bool → List ℕ → List ℕ
anew whole l =
    pick (pair_at l) (ascii.backslash ∷ small (get_or l 1 0) ∷ [])
    (pick (whole && bare_at l) (ascii.backslash ∷ ascii.semicolon ∷ []) (get_or l 0 0 ∷ []))

-- a text so written
unfoldable pub renewed : Bool → List ℕ → List ℕ
renewed whole l = gather passed (anew whole) l 0

-- its bare semicolons
unfoldable pub semicolon_at : List ℕ → List ℕ
semicolon_at l = pick (pair_at l) [] (pick (bare_at l) (ascii.semicolon ∷ []) [])

unfoldable pub semicolons : List ℕ → List ℕ
semicolons l = gather passed semicolon_at l 0
