-- A count of a list, by what is given for one octet. Assumes nothing.
use Rattle.std.specs.Prelude.{ℕ, ◌≡◌, ◌<◌, Bool, List}
use Rattle.octets.specs.Classes.{bit}
use Rattle.octets.specs.Counts.{count}

-- for any test, where 1 is given for each octet that passes it and 0 for each other, n octets pass it
abbrev pub Tallies : (ℕ → ℕ → Type 0) → List ℕ → ℕ → Type 0
Tallies Gave s n = (p : ℕ → Bool) → ((b r : ℕ) → b < 256 → Gave b r → r ≡ bit (p b) 1) → n ≡ count p s
