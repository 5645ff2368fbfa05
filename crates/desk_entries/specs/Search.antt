-- The first position at which a test holds, a test at every position, and numbers side by side. Assumes nothing.
use Rattle.std.specs.Prelude.{ℕ, zero, suc, ◌+◌, ◌<◌, ◌≤◌, Bool, true, false, List, Option, Some, None, ltb, eqb, get_or}
use Rattle.octets.specs.Pick.{pick}
use Rattle.desk_entries.specs.declared.tickets.Lowest.{Lowest}

-- where something stands among the entries, or the refusal that bars a call
pub data Position : Type 0 where
  At : ℕ → Position
  Nowhere : Position
  Barred : ℕ → Position

-- the same of an option
abbrev pub place : Option ℕ → Position
place None = Nowhere
place (Some i) = At i

-- the first of the k positions from i on at which p holds
unfoldable pub first_at : (ℕ → Bool) → ℕ → ℕ → Position
first_at p i zero = Nowhere
first_at p i (suc k) = pick (p i) (At i) (first_at p (i + 1) k)

-- p holds at each of the k positions from i on
unfoldable pub all_at : (ℕ → Bool) → ℕ → ℕ → Bool
all_at p i zero = true
all_at p i (suc k) = pick (p i) (all_at p (i + 1) k) false

-- p holds at one of the first n positions
unfoldable pub any_at : (ℕ → Bool) → ℕ → Bool
any_at p zero = false
any_at p (suc n) = pick (any_at p n) true (p n)

abbrev pub column : List ℕ → ℕ → ℕ
column ts i = get_or ts i 0

-- f has t at a position
abbrev pub same_as : (ℕ → ℕ) → ℕ → ℕ → Bool
same_as f t i = eqb (f i) t

abbrev pub is_at : Position → Bool
is_at (At i) = true
is_at Nowhere = false
is_at (Barred n) = false

-- t is not 0, and f has it at one of the first n positions
unfoldable pub among : (ℕ → ℕ) → ℕ → ℕ → Bool
among f t n = pick (eqb t 0) false (is_at (first_at (same_as f t) 0 n))

-- f has nothing above h at the first n positions
unfoldable pub AtMost : (ℕ → ℕ) → ℕ → ℕ → Type 0
AtMost f n h = (j : ℕ) → j < n → f j ≤ h

-- ---- the lowest number, where 0 is none

-- the lower one of what was found and of the number at a position
abbrev pub lower : Option Lowest → ℕ → ℕ → Option Lowest
lower None t i = pick (eqb t 0) None (Some (record { ticket = t; at = i }))
lower (Some b) t i = pick (eqb t 0) (Some b) (pick (ltb t b.ticket) (Some (record { ticket = t; at = i })) (Some b))

-- the lowest number of f at one of the first n positions, and the first such position
unfoldable pub lowest_of : (ℕ → ℕ) → ℕ → Option Lowest
lowest_of f zero = None
lowest_of f (suc n) = lower (lowest_of f n) (f n) n

abbrev pub at_lowest : Option Lowest → Position
at_lowest None = Nowhere
at_lowest (Some b) = At b.at

unfoldable pub lowest_at : (ℕ → ℕ) → ℕ → Position
lowest_at f n = at_lowest (lowest_of f n)

-- ---- the positions that come first

-- one more than a count of positions that ends at i, and any other count as it is
abbrev pub longer : ℕ → ℕ → ℕ
longer run i = pick (eqb run i) (i + 1) run

-- how many of the first n positions come before the first at which p holds
unfoldable pub leading : (ℕ → Bool) → ℕ → ℕ
leading p zero = 0
leading p (suc n) = pick (p n) (leading p n) (longer (leading p n) n)
