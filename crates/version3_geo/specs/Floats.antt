-- Two floats with a mark between them, and the two forms of a GEO value. A float is `[sign] 1*DIGIT ["." 1*DIGIT]` (RFC 6350, 4.6).
-- Assumes nothing.
use Rattle.std.specs.Prelude.{ℕ, suc, Bool, true, not, ◌&&◌, ◌||◌, List, ◌++◌, eqb, ltb, length, get_or, take, drop, set}
use Rattle.octets.specs.Ascii as ascii
use Rattle.octets.specs.Ascii.{octets}
use Rattle.octets.specs.Pick.{pick}
use Rattle.octets.specs.Classes.{run, digit}

-- 1*DIGIT
unfoldable pub digits : List ℕ → Bool
digits l = ltb 0 (length l) && eqb (run digit l) (length l)

-- ["." 1*DIGIT]
unfoldable pub fraction : List ℕ → Bool
fraction l = pick (eqb (length l) 0) true (eqb (get_or l 0 0) ascii.dot && digits (drop 1 l))

-- 1*DIGIT ["." 1*DIGIT]
unfoldable pub unsigned : List ℕ → Bool
unsigned l = ltb 0 (run digit l) && fraction (drop (run digit l) l)

unfoldable pub sign : ℕ → Bool
sign b = eqb b ascii.plus || eqb b ascii.hyphen

unfoldable pub float : List ℕ → Bool
float l = pick (sign (get_or l 0 0)) (unsigned (drop 1 l)) (unsigned l)

-- how many octets stand before the first mark
unfoldable pub up_to : ℕ → List ℕ → ℕ
up_to mark l = run (λ b. not (eqb b mark)) l

-- two floats, with a mark between them
unfoldable pub floats : ℕ → List ℕ → Bool
floats mark l = ltb (up_to mark l) (length l) && (float (take (up_to mark l) l) && float (drop (suc (up_to mark l)) l))

-- the first mark made another one
unfoldable pub swapped : ℕ → ℕ → List ℕ → List ℕ
swapped mark other l = set l (up_to mark l) other

abbrev pub geo_text : List ℕ
geo_text = octets "geo:"

-- `geo:` stands first
unfoldable pub schemed : List ℕ → Bool
schemed l = eqb (get_or l 0 0) 103 && (eqb (get_or l 1 0) 101 && (eqb (get_or l 2 0) 111 && eqb (get_or l 3 0) ascii.colon))

-- version 3: `a;b`; version 4: `geo:a,b`
unfoldable pub old_geo : List ℕ → Bool
old_geo l = floats ascii.semicolon l

unfoldable pub new_geo : List ℕ → Bool
new_geo l = schemed l && floats ascii.comma (drop 4 l)

-- each made the other; a value without `geo:` stays
unfoldable pub made_new : List ℕ → List ℕ
made_new l = geo_text ++ swapped ascii.semicolon ascii.comma l

unfoldable pub made_old : List ℕ → List ℕ
made_old l = pick (schemed l) (swapped ascii.comma ascii.semicolon (drop 4 l)) l
