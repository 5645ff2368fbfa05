-- Text with the escapes of refusal 30: its first fault and what it stands for. Assumes nothing.
use Rattle.std.specs.Prelude.{ℕ, Bool, ◌&&◌, ◌||◌, List, [], ◌∷◌, eqb, get_or}
use Rattle.octets.specs.Ascii as ascii
use Rattle.octets.specs.Pick.{pick}
use Rattle.octets.specs.Scan.{scan, gather}
use Rattle.text_marks.specs.Marks.{backslash, special}

-- what may follow the backslash of an escape: `\`, `,`, `;`, `n` or `N`
unfoldable pub code : ℕ → Bool
code b = special b || (eqb b ascii.small_n || eqb b ascii.capital_n)

-- the octet that such an escape stands for: 0A for `n` and `N`, else what follows the backslash
unfoldable pub meant : ℕ → ℕ
meant b = pick (eqb b ascii.small_n || eqb b ascii.capital_n) ascii.lf b

-- an escape starts here
unfoldable pub escape_at : List ℕ → Bool
escape_at l = backslash (get_or l 0 0) && code (get_or l 1 0)

-- an escape is passed whole; a bare comma and a backslash of no escape are faults; any other octet stands for itself
unfoldable pub text_step : List ℕ → ℕ
text_step l = pick (escape_at l) 2 (pick (backslash (get_or l 0 0) || eqb (get_or l 0 0) ascii.comma) 0 1)

-- the offset of the first fault; the length where there is none
unfoldable pub first_fault : List ℕ → ℕ
first_fault l = scan text_step l 0

-- how many octets the escape or the octet has that stands here
unfoldable pub passed : List ℕ → ℕ
passed l = pick (escape_at l) 2 1

-- the octet that it stands for
unfoldable pub standing : List ℕ → ℕ
standing l = pick (escape_at l) (meant (get_or l 1 0)) (get_or l 0 0)

-- what a text stands for
unfoldable pub unescaped : List ℕ → List ℕ
unescaped l = gather passed (λ (r : List ℕ). standing r ∷ []) l 0
