-- The same octet by octet, over a line as it is written, folded or not. Assumes nothing.
use Rattle.std.specs.Prelude.{ℕ, List, [], ◌∷◌, ◌≡◌, eqb, drop}
use Rattle.octets.specs.Pick.{pick}
use Rattle.folder_raising.specs.Letters.{upper}
use Rattle.folder_raising.specs.declared.Style.{Style}
use Rattle.folder_raising.specs.declared.Style.TheVariants.{AsRead, Raised}
use Rattle.folder_raising.specs.declared.Spot.{Spot}
use Rattle.folder_raising.specs.declared.Spot.TheVariants.{Name, Values, Quotes, Past}

-- where the line stands after an octet
abbrev pub after : Spot → ℕ → Spot
after Name b = pick (eqb b 58) Past (pick (eqb b 61) Values Name)
after Values b = pick (eqb b 34) Quotes (pick (eqb b 59) Name (pick (eqb b 58) Past Values))
after Quotes b = pick (eqb b 34) Values Quotes
after Past b = Past

-- what the octet becomes
abbrev pub turned : Spot → ℕ → ℕ
turned Name b = upper b
turned Values b = b
turned Quotes b = b
turned Past b = b

-- a line from a place on
unfoldable pub raised_from : Spot → List ℕ → List ℕ
raised_from k [] = []
raised_from k (x ∷ xs) = turned k x ∷ raised_from (after k x) xs

-- the line stands at spot k at i, and raising leaves the rest as it is
abbrev pub Kept : Spot → ℕ → List ℕ → Type 0
Kept k i s = raised_from k (drop i s) ≡ drop i s

unfoldable pub raised : List ℕ → List ℕ
raised l = raised_from Name l

-- a line's octets in a style
abbrev pub written : Style → List ℕ → List ℕ
written AsRead l = l
written Raised l = raised l
