-- What opening and reading a file answers, and what the room holds then. Assumes nothing.
use Rattle.std.specs.Prelude.{ℕ, ◌≤◌, ◌≡◌, List, ℤ, pos, negsuc, Option, Some, None, IfSome, length, drop}

-- a room as it was, but for n octets at its start
abbrev pub FilledTo : ℕ → List ℕ → List ℕ → Type 0
FilledTo n old new = (n ≤ length old) × (length new ≡ length old) × (drop n new ≡ drop n old)

-- as many octets as told were read to the room's start; where a reading fails, the octets are free
abbrev pub Fetched : Option ℕ → List ℕ → List ℕ → Type 0
Fetched (Some n) old new = FilledTo n old new
Fetched None old new = length new ≡ length old

abbrev pub From0On : ℤ → Type 0
From0On (pos n) = Unit {0}
From0On (negsuc n) = ⊥

-- a descriptor is from 0 on
abbrev pub Descriptor : Option ℤ → Type 0
Descriptor r = IfSome r From0On
