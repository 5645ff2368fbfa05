-- Ticks beside the entries: the one that counts, which is ahead of another, and when a session is idle. Assumes nothing.
use Rattle.std.specs.Prelude.{ℕ, ◌+◌, Bool, false, ltb, leb, eqb}
use Rattle.octets.specs.Pick.{pick}
use Rattle.desk_entries.specs.Entries.{ticket_of}
use Rattle.desk_entries.specs.declared.State.{State}

-- by how much a desk is ahead of an idle session at least
abbrev pub idle_ticks : ℕ
idle_ticks = 600

-- the higher of two ticks
abbrev pub higher : ℕ → ℕ → ℕ
higher a b = pick (ltb a b) b a

-- a session with that tick is idle when the desk's is `now`
abbrev pub idle : ℕ → ℕ → Bool
idle tick now = leb (tick + idle_ticks) now

-- the ticket of an open entry that is idle, and 0 of any other
abbrev pub idle_ticket : State → ℕ → ℕ → ℕ
idle_ticket s tick now = pick (idle tick now) (ticket_of s) 0

-- a ticket that is not 0 has a tick above the highest
abbrev pub ahead : ℕ → ℕ → ℕ → Bool
ahead ticket tick highest = pick (eqb ticket 0) false (ltb highest tick)

-- the same at a position of tickets and ticks
abbrev pub ahead_by : (ℕ → ℕ) → (ℕ → ℕ) → ℕ → ℕ → Bool
ahead_by tickets ticks highest i = ahead (tickets i) (ticks i) highest
