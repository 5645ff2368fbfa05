-- What is seen in a value or a label: an octet that may be bad, and a mark, which is a caret or one of two octets more. Assumes nothing.
use Rattle.std.specs.Prelude.{ℕ, Bool, not, ◌&&◌, ◌||◌, List, eqb}
use Rattle.octets.specs.Ascii as ascii
use Rattle.utf8_screening.specs.Plain.{odd}
use Rattle.text_marks.specs.Seen.{seen_by}

-- a caret, x or y
unfoldable pub mark : ℕ → ℕ → ℕ → Bool
mark x y b = eqb b ascii.caret || (eqb b x || eqb b y)

-- an octet that is neither plain nor x, or that is z
unfoldable pub amiss : ℕ → ℕ → ℕ → Bool
amiss x z b = (odd b && not (eqb b x)) || eqb b z

-- 1 where an octet may be bad, 2 where one is a mark, 3 where both
abbrev pub seen : ℕ → ℕ → ℕ → List ℕ → ℕ
seen x y z s = seen_by (amiss x z) (mark x y) s
