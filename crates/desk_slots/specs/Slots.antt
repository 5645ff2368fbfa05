-- The slot of a ticket, the lowest free slot and the idle one with the lowest ticket, with the refusals 25, 24 and 22, for all entries of a
-- desk, its slot count, its next ticket and its ticks, every size of the pool and every ticket. Assumes nothing.
use Rattle.std.specs.Prelude.{ℕ, zero, suc, ◌+◌, ◌*◌, ◌<◌, ◌≤◌, Bool, true, false, List, Option, Some, None, Result, Ok, Err, eqb}
use Rattle.numbers.specs.Limits as limit
use Rattle.numbers.specs.Refusals as refusal
use Rattle.octets.specs.Pick.{pick}
use Rattle.desk_entries.specs.Search.{Position, At, Nowhere, Barred, place, first_at, same_as, lowest_at, leading}
use Rattle.desk_entries.specs.Ticks.{idle_ticket}
use Rattle.desk_slots.specs.Sound.{state_at, ticket_at, tick_at, sound_at}
use Rattle.numbers.specs.Refusals.{number}
use Rattle.numbers.specs.declared.refusal.Reason.TheVariants.{PoolLength, Unsound}
use Rattle.numbers.specs.declared.refusal.Refusal.{Refusal}
use Rattle.desk_entries.specs.declared.Session.{Session}
use Rattle.desk_entries.specs.declared.State.{State}
use Rattle.desk_entries.specs.declared.State.TheVariants.{Free, Open}
use Rattle.desk_entries.specs.declared.Entry.{Entry}
use Rattle.desk_slots.specs.declared.Found.{Found}
use Rattle.desk_slots.specs.declared.Look.{Look}

-- the slot of a ticket with its session, or a refusal
pub data Slot : Type 0 where
  Held : ℕ → Session → Slot
  No : ℕ → Slot

-- the same of a result
abbrev pub found : Result Found Refusal → Slot
found (Ok f) = Held f.slot f.session
found (Err r) = No (number r.0)

-- a position, or the refusal that bars a call
abbrev pub position : Result (Option ℕ) Refusal → Position
position (Ok o) = place o
position (Err r) = Barred (number r.0)

-- 25 where the desk is not sound, then 24 where the pool has another size, else a
abbrev pub guarded : {A : Type 0} → List Entry → ℕ → ℕ → List ℕ → ℕ → ℕ → (ℕ → A) → A → A
guarded es slots next stamps tick size bar a = pick (sound_at es slots next stamps tick) (pick (eqb size (slots * limit.octets)) a (bar refusal.pool_length)) (bar refusal.unsound)

abbrev pub is_free : State → Bool
is_free Free = true
is_free (Open s) = false

abbrev pub has_ticket : ℕ → State → Bool
has_ticket t Free = false
has_ticket t (Open s) = eqb s.ticket t

abbrev pub free_at : List Entry → ℕ → Bool
free_at es i = is_free (state_at es i)

abbrev pub open_at : List Entry → ℕ → ℕ → Bool
open_at es t i = has_ticket t (state_at es i)

abbrev pub in_state : ℕ → State → Slot
in_state i Free = No refusal.not_open
in_state i (Open s) = Held i s

abbrev pub at_position : List Entry → Position → Slot
at_position es Nowhere = No refusal.not_open
at_position es (At i) = in_state i (state_at es i)
at_position es (Barred n) = No n

-- 25, 24, or the first slot that has a ticket; a free one has 0
unfoldable pub position_of : List Entry → ℕ → ℕ → List ℕ → ℕ → ℕ → ℕ → Position
position_of es slots next stamps tick size t = guarded es slots next stamps tick size Barred (first_at (same_as (ticket_at es) t) 0 slots)

-- the ticket of entry i where it is open and idle, and 0 of any other
abbrev pub idle_at : List Entry → List ℕ → ℕ → ℕ → ℕ
idle_at es stamps now i = idle_ticket (state_at es i) (tick_at stamps i) now

-- the idle slot with the lowest ticket
unfoldable pub idle_of : List Entry → ℕ → List ℕ → ℕ → Position
idle_of es slots stamps now = lowest_at (idle_at es stamps now) slots

-- 25, 24, 22, or the slot of a ticket with its session
unfoldable pub slot_of : List Entry → ℕ → ℕ → List ℕ → ℕ → ℕ → ℕ → Slot
slot_of es slots next stamps tick size t = guarded es slots next stamps tick size No (at_position es (first_at (open_at es t) 0 limit.slots))

-- ---- one look along the entries

-- entry i, where it has the ticket, and else what was found before
abbrev pub met : Option Found → ℕ → ℕ → State → Option Found
met f i t Free = f
met f i t (Open s) = pick (eqb s.ticket t) (Some (record { slot = i; session = s })) f

-- the last of the first n entries that has a ticket
unfoldable pub latest : List Entry → ℕ → ℕ → Option Found
latest es t zero = None
latest es t (suc n) = met (latest es t n) n t (state_at es n)

-- the entry that has a ticket, and how many open entries come first
abbrev pub look_in : List Entry → ℕ → Look
look_in es t = record { found = latest es t limit.slots; run = leading (free_at es) limit.slots }

-- the same of a sound desk
unfoldable pub look_of : List Entry → ℕ → ℕ → List ℕ → ℕ → ℕ → Option Look
look_of es slots next stamps tick t = pick (sound_at es slots next stamps tick) (Some (look_in es t)) None

-- 25, 24, or what a look tells
unfoldable pub seen_of : List Entry → ℕ → ℕ → List ℕ → ℕ → ℕ → ℕ → Result Look Refusal
seen_of es slots next stamps tick size t =
    pick (sound_at es slots next stamps tick) (pick (eqb size (slots * limit.octets)) (Ok (look_in es t)) (Err (record { 0 = PoolLength; 1 = 0 }))) (Err (record { 0 = Unsound; 1 = 0 }))

-- slot i lies within the desk and its pool of that size, and the octets held within the slot
pub record Bounded (size i : ℕ) (s : Session) : Type 0 where
  pub short : i < limit.slots
  pub room : s.held ≤ limit.octets
  pub end : i * limit.octets + limit.octets ≤ size

abbrev pub Within : ℕ → Slot → Type 0
Within size (Held i s) = Bounded size i s
Within size (No n) = Unit {0}
