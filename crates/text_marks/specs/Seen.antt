-- What is seen in a text: whether an octet is not plain, and whether one is a backslash, a comma or one of two octets more.
-- Assumes nothing.
use Rattle.std.specs.Prelude.{ℕ, ◌+◌, ◌≡◌, ◌<◌, Bool, ◌||◌, List, [], ◌∷◌, eqb}
use Rattle.octets.specs.Ascii as ascii
use Rattle.octets.specs.Classes.{bit}
use Rattle.octets.specs.Counts.{any}
use Rattle.utf8_screening.specs.Plain.{odd}
use Rattle.text_marks.specs.Marks.{backslash}

-- backslash, comma or one of two octets more
unfoldable pub held : ℕ → ℕ → ℕ → Bool
held x y b = (backslash b || eqb b ascii.comma) || (eqb b x || eqb b y)

-- 1 where an octet passes the first test, 2 where one passes the second, 3 where both are so, else 0
unfoldable pub seen_by : (ℕ → Bool) → (ℕ → Bool) → List ℕ → ℕ
seen_by p q s = bit (any p s) 1 + bit (any q s) 2

-- 1 where an octet is not plain, 2 where one is held, 3 where both
abbrev pub seen : ℕ → ℕ → List ℕ → ℕ
seen x y s = seen_by odd (held x y) s

-- what is seen in a list, by what is seen of one octet: for any two tests, where of each octet what they say is seen
abbrev pub Sees : (ℕ → ℕ → Type 0) → List ℕ → ℕ → Type 0
Sees Saw s n =
    (p q : ℕ → Bool) → ((b r : ℕ) → b < 256 → Saw b r → r ≡ seen_by p q (b ∷ [])) → n ≡ seen_by p q s
