-- The ticket of an entry, and whether an entry fits its desk. Assumes nothing.
use Rattle.std.specs.Prelude.{ℕ, Bool, true, false, ltb, leb}
use Rattle.numbers.specs.Limits as limit
use Rattle.octets.specs.Pick.{pick}
use Rattle.desk_entries.specs.declared.State.{State}
use Rattle.desk_entries.specs.declared.State.TheVariants.{Free, Open}

-- the ticket of an open entry, and 0 of a free one
abbrev pub ticket_of : State → ℕ
ticket_of Free = 0
ticket_of (Open s) = s.ticket

-- entry i is free, or is one of so many slots and has a ticket from 1 on below the next one and at most 16,384 octets
abbrev pub fits : ℕ → ℕ → ℕ → State → Bool
fits slots next i Free = true
fits slots next i (Open s) = pick (ltb i slots) (pick (leb 1 s.ticket) (pick (ltb s.ticket next) (leb s.held limit.octets) false) false) false
