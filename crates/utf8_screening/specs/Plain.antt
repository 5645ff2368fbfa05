-- Plain text, and how far a search of the first bad octet may go at once. Assumes nothing.
use Rattle.std.specs.Prelude.{ℕ, ◌+◌, ◌≤◌, ◌≡◌, Bool, true, not, ◌&&◌, ◌||◌, List, [], ◌∷◌, ltb, eqb, length, drop}
use Rattle.octets.specs.Ascii as ascii
use Rattle.utf8.specs.Characters.{allowed, unit, first_bad}

-- n octets from i on can be passed in the search of the first bad one; none where one stands there
pub record Strides (p : ℕ → Bool) (s : List ℕ) (i n : ℕ) : Type 0 where
  pub stops : n ≡ 0 → unit p (drop i s) ≡ 0
  pub goes : i + first_bad p (drop i s) ≡ i + n + first_bad p (drop (i + n) s)
  pub inside : i + n ≤ length s

-- n octets from i on are one character that is allowed, LF or no LF; or n is 0
pub record Easy (s : List ℕ) (i n : ℕ) : Type 0 where
  pub whole : (lf : Bool) → (n ≡ 0 → ⊥) → n ≡ unit (allowed lf) (drop i s)

-- no bad octet stands before n
pub record Reached (s : List ℕ) (n : ℕ) : Type 0 where
  pub goes : (lf : Bool) → first_bad (allowed lf) s ≡ n + first_bad (allowed lf) (drop n s)
  pub inside : n ≤ length s

-- an octet that is neither a tab nor one of 20-7E
unfoldable pub odd : ℕ → Bool
odd b = ltb 0x7e b || (ltb b 0x20 && not (eqb b ascii.tab))

-- how many octets are looked at together, and how many of a text shorter than that
abbrev pub block : ℕ
block = 16

abbrev pub half : ℕ
half = 8

-- each octet is a tab or one of 20-7E
unfoldable pub all_plain : List ℕ → Bool
all_plain [] = true
all_plain (x ∷ xs) = not (odd x) && all_plain xs
