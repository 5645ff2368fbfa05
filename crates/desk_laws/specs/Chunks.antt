-- Octets added to an upload chunk by chunk. Assumes nothing.
use Rattle.std.specs.Prelude.{ℕ, ◌+◌, List, [], ◌∷◌, take, drop}
use Rattle.desk_ledger.specs.Ledger.{Deed, adds}

-- chunks of these lengths, one after another, from the start of the octets
unfoldable pub pieces : List ℕ → List ℕ → List Deed
pieces [] octets = []
pieces (n ∷ ns) octets = adds (take n octets) ∷ pieces ns (drop n octets)

-- how many octets they take
unfoldable pub total : List ℕ → ℕ
total [] = 0
total (n ∷ ns) = n + total ns
