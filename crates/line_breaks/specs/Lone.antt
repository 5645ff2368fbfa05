-- Refusals 3 and 4 of REFERENCE, Refusals: CR without LF after it, or LF without CR before it; and whether the last two octets are CR LF.
-- Assumes nothing.
use Rattle.std.specs.Prelude.{ℕ, ◌+◌, ◌-◌, ◌<◌, ◌≡◌, Bool, true, false, not, ◌&&◌, List, [], ◌∷◌, eqb, ltb, length, get_or}
use Rattle.octets.specs.Ascii as ascii
use Rattle.octets.specs.Pick.{pick}
use Rattle.octets.specs.Scan.{scan}

-- CR LF is passed whole, any other CR or LF stops, any other octet is passed
unfoldable pub lone_step : List ℕ → ℕ
lone_step l = pick (eqb (get_or l 0 0) ascii.lf) 0 (pick (eqb (get_or l 0 0) ascii.cr) (pick (eqb (get_or l 1 0) ascii.lf) 2 0) 1)

-- the first lone CR or LF, or the length
unfoldable pub first_lone : List ℕ → ℕ
first_lone i = scan lone_step i 0

abbrev pub differ : Bool → Bool → Bool
differ true b = not b
differ false b = b

-- only one of the octets at i and behind it is half of a CR LF
unfoldable pub split_at : List ℕ → ℕ → Bool
split_at s i = differ (eqb (get_or s i 0) ascii.cr) (eqb (get_or s (i + 1) 0) ascii.lf)

-- none of the first n pairs of neighbours is split
abbrev pub Joined : List ℕ → ℕ → Type 0
Joined s n = (k : ℕ) → k < n → split_at s k ≡ false

-- LF stands exactly after each CR; cr says whether CR is the octet before
unfoldable pub paired_after : Bool → List ℕ → Bool
paired_after cr [] = not cr
paired_after cr (x ∷ xs) = not (differ cr (eqb x ascii.lf)) && paired_after (eqb x ascii.cr) xs

unfoldable pub paired : List ℕ → Bool
paired l = paired_after false l

-- the last two octets are CR LF
unfoldable pub ends_cr_lf : List ℕ → Bool
ends_cr_lf i = not (ltb (length i) 2) && (eqb (get_or i (length i - 2) 0) ascii.cr && eqb (get_or i (length i - 1) 0) ascii.lf)
