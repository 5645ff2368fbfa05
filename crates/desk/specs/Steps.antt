-- What each call answers, the next desk and what the pool holds then, for every desk, pool and ticket. Assumes nothing.
use Rattle.std.specs.Prelude.{ℕ, ◌+◌, ◌*◌, ◌<◌, ◌≤◌, Bool, List, [], Ok, Err, ltb, eqb, length, set, replicate}
use Rattle.numbers.specs.Limits as limit
use Rattle.numbers.specs.Refusals as refusal
use Rattle.numbers.specs.declared.refusal.Reason.{Reason}
use Rattle.numbers.specs.declared.refusal.Reason.TheVariants.{SlotCount}
use Rattle.octets.specs.Pick.{pick}
use Rattle.reader.specs.Outcome.{judge_of}
use Rattle.reader.specs.Outcome.{Verdict}
use Rattle.reader.specs.Outcome.{Refused as Unread}
use Rattle.desk_entries.specs.Search.{Position, At, Nowhere, Barred, first_at}
use Rattle.desk_entries.specs.Ticks.{higher}
use Rattle.desk_slots.specs.Sound.{none, bounds, SoundAt, sound_at}
use Rattle.desk_slots.specs.Slots.{Slot, Held, No, guarded as guarded_entries, free_at, idle_of, slot_of as slot_in}
use Rattle.desk_entries.specs.declared.Session.{Session}
use Rattle.desk_entries.specs.declared.State.{State}
use Rattle.desk_entries.specs.declared.State.TheVariants.{Free, Open}
use Rattle.desk_slots.specs.declared.Table.{Table}
use Rattle.desk_pool.specs.Pools.{patch, zeros, Part, part_of}
use Rattle.desk.specs.declared.Desk.{Desk}
use Rattle.desk.specs.Answer.{Answer, Done, Refused, answer}
use Rattle.desk.specs.declared.Turn.{Turn}

-- ---- a sound desk, and the slot of a ticket

-- what is known of its slots
abbrev pub table : Desk → Table
table d = record { entries = d.entries; stamps = d.stamps; slots = d.slots; next = d.next; tick = d.tick }

abbrev pub Sound : Desk → Type 0
Sound d = SoundAt d.entries d.slots d.next d.stamps d.tick

abbrev pub sound : Desk → Bool
sound d = sound_at d.entries d.slots d.next d.stamps d.tick

-- 25 where the desk is not sound, then 24 where the pool has another size, else a
abbrev pub guarded : {A : Type 0} → Desk → ℕ → (ℕ → A) → A → A
guarded d size bar a = guarded_entries d.entries d.slots d.next d.stamps d.tick size bar a

-- 25, 24, 22, or the slot of a ticket with its session
abbrev pub slot_of : Desk → ℕ → ℕ → Slot
slot_of d size t = slot_in d.entries d.slots d.next d.stamps d.tick size t

-- "a lower one counts as that": the higher of the desk's tick and a call's
abbrev pub seen : Desk → ℕ → ℕ
seen d tick = higher d.tick tick

-- the idle slot with the lowest ticket, when the desk's tick is `now`
abbrev pub idle_slot : Desk → ℕ → Position
idle_slot d now = idle_of d.entries d.slots d.stamps now

-- ---- answers

-- an answer, the next desk and what the pool holds then
pub record Turned : Type 0 where
  pub answer : Answer
  pub desk : Desk
  pub pool : List ℕ

abbrev pub turned : Turn → List ℕ → Turned
turned r p = record { answer = answer r.answer; desk = r.desk; pool = p }

-- a refusal's number and place; it changes nothing
abbrev pub refuse : Desk → Reason → ℕ → Turn
refuse d n at = record { answer = Err (record { 0 = n; 1 = at }); desk = d }

abbrev pub refused : Desk → List ℕ → ℕ → ℕ → Turned
refused d p at n = record { answer = Refused n at; desk = d; pool = p }

-- ---- a new desk

abbrev pub fresh_desk : ℕ → Desk
fresh_desk n = record { entries = replicate limit.slots none; slots = n; next = 1; tick = 0; stamps = replicate limit.slots 0 }

unfoldable pub new_step : ℕ → Turn
new_step n = pick (bounds n 1) (record { answer = Ok 0; desk = fresh_desk n }) (refuse (fresh_desk 0) SlotCount 0)

-- ---- open

abbrev pub with_state : Desk → ℕ → State → Desk
with_state d i s = record { entries = set d.entries i (record { state = s }); slots = d.slots; next = d.next; tick = d.tick; stamps = d.stamps }

-- the desk with entry i in a new state, and an answer
abbrev pub grant : Desk → ℕ → State → ℕ → Turn
grant d i s n = record { answer = Ok n; desk = with_state d i s }

-- the desk with its tick and that of entry i
abbrev pub stamped : Desk → ℕ → ℕ → Desk
stamped d i now = record { entries = d.entries; slots = d.slots; next = d.next; tick = now; stamps = set d.stamps i now }

-- the next ticket in slot i
abbrev pub opened : Desk → ℕ → ℕ → ℕ → Desk
opened d m now i =
    record {
      entries = set d.entries i (record { state = Open (record { ticket = d.next; tram = m; held = 0 }) });
      slots = d.slots;
      next = d.next + 1;
      tick = now;
      stamps = set d.stamps i now;
    }

abbrev pub begun : Desk → ℕ → ℕ → ℕ → Turn
begun d m now i = record { answer = Ok d.next; desk = opened d m now i }

-- with no free slot: the idle one that is found is zeroed and taken, else 20
abbrev pub reclaim_in : Desk → List ℕ → ℕ → ℕ → Position → Turned
reclaim_in d p m now Nowhere = refused d p 0 refusal.no_free_slot
reclaim_in d p m now (At i) = turned (begun d m now i) (patch p (i * limit.octets) zeros)
reclaim_in d p m now (Barred n) = refused d p 0 n

abbrev pub open_in : Desk → List ℕ → ℕ → ℕ → Position → Turned
open_in d p m now Nowhere = reclaim_in d p m now (idle_slot d now)
open_in d p m now (At i) = turned (begun d m now i) p
open_in d p m now (Barred n) = refused d p 0 n

-- a ticket is left, and the pool has the desk's slots
pub record Takes (d : Desk) (p : List ℕ) : Type 0 where
  pub few : d.slots ≤ limit.slots
  pub left : d.next < limit.tickets
  pub fits : d.slots * limit.octets ≤ length p

-- 25, 24, 21, 20; else the next ticket in the lowest free slot, or in the idle one with the lowest ticket
unfoldable pub open_step : Desk → List ℕ → ℕ → ℕ → Turned
open_step d p m tick =
    guarded d (length p) (refused d p 0)
    (pick (eqb d.next limit.tickets) (refused d p 0 refusal.tickets_used_up) (open_in d p m (seen d tick) (first_at (free_at d.entries) 0 d.slots)))

-- ---- add

abbrev pub grown : Session → ℕ → Session
grown s n = record { ticket = s.ticket; tram = s.tram; held = s.held + n }

abbrev pub add_in : Desk → List ℕ → List ℕ → ℕ → Slot → Turned
add_in d p q now (No n) = refused d p 0 n
add_in d p q now (Held i s) =
    pick (ltb limit.octets (s.held + length q)) (refused d p s.held refusal.slot_full)
    (record { answer = Done (s.held + length q); desk = with_state (stamped d i now) i (Open (grown s (length q))); pool = patch p (i * limit.octets + s.held) q })

unfoldable pub add_step : Desk → List ℕ → ℕ → List ℕ → ℕ → Turned
add_step d p t q tick = add_in d p q (seen d tick) (slot_of d (length p) t)

-- ---- release

abbrev pub release_in : Desk → List ℕ → Slot → Turned
release_in d p (No n) = refused d p 0 n
release_in d p (Held i s) = record { answer = Done 0; desk = with_state d i Free; pool = patch p (i * limit.octets) zeros }

unfoldable pub release_step : Desk → List ℕ → ℕ → Turned
release_step d p t = release_in d p (slot_of d (length p) t)

-- ---- show, held and judge

-- the octets of a session in slot i
abbrev pub octets_in : List ℕ → ℕ → Session → List ℕ
octets_in p i s = (part_of p i s.held).octets

abbrev pub show_in : List ℕ → Slot → Part
show_in p (No n) = record { start = 0; octets = [] }
show_in p (Held i s) = part_of p i s.held

unfoldable pub show_step : Desk → List ℕ → ℕ → Part
show_step d p t = show_in p (slot_of d (length p) t)

abbrev pub held_in : Slot → Answer
held_in (No n) = Refused n 0
held_in (Held i s) = Done s.held

unfoldable pub held_step : Desk → List ℕ → ℕ → Answer
held_step d p t = held_in (slot_of d (length p) t)

abbrev pub judge_in : List ℕ → Slot → Verdict
judge_in p (No n) = Unread n 0
judge_in p (Held i s) = judge_of (octets_in p i s)

unfoldable pub judge_step : Desk → List ℕ → ℕ → Verdict
judge_step d p t = judge_in p (slot_of d (length p) t)
