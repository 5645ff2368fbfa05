-- What a granted call does to desk and pool, on every sound desk with its proper pool: the entry and the octets that change, and that all
-- others are as before. Assumes nothing.
use Rattle.std.specs.Prelude.{ℕ, ◌+◌, ◌*◌, ◌<◌, ◌≤◌, ◌≡◌, List, length, get_or}
use Rattle.numbers.specs.Limits as limit
use Rattle.desk_entries.specs.Ticks.{idle_ticks}
use Rattle.desk_slots.specs.Sound.{state_at, tick_at}
use Rattle.desk.specs.Steps.{Sound, seen, Turned, open_step, add_step, release_step}
use Rattle.desk_entries.specs.declared.Session.{Session}
use Rattle.desk_entries.specs.declared.State.{State}
use Rattle.desk_entries.specs.declared.State.TheVariants.{Free, Open}
use Rattle.desk.specs.declared.Desk.{Desk}
use Rattle.desk_ledger.specs.Answers.{told, said}

-- a sound desk, whose array has 40 entries, with its proper pool
pub record Usable (d : Desk) (p : List ℕ) : Type 0 where
  pub sound : Sound d
  pub forty : length d.entries ≡ limit.slots
  pub beside : length d.stamps ≡ limit.slots
  pub size : length p ≡ d.slots * limit.octets

-- the session s is open in slot i with ticket t
pub record OpenAt (d : Desk) (t i : ℕ) (s : Session) : Type 0 where
  pub inside : i < d.slots
  pub state : state_at d.entries i ≡ Open s
  pub ticket : s.ticket ≡ t

-- entry i is in the state x then, every other entry and the slot count are as before
pub record EntryBecomes (d : Desk) (i : ℕ) (x : State) (d' : Desk) : Type 0 where
  pub there : state_at d'.entries i ≡ x
  pub others : (j : ℕ) → (j ≡ i → ⊥) → state_at d'.entries j ≡ state_at d.entries j
  pub forty : length d'.entries ≡ limit.slots
  pub slots : d'.slots ≡ d.slots

-- the desk's tick and that of entry i are `now` then, every other entry's is as before
pub record TicksBecome (d : Desk) (i now : ℕ) (d' : Desk) : Type 0 where
  pub tick : d'.tick ≡ now
  pub there : tick_at d'.stamps i ≡ now
  pub others : (j : ℕ) → (j ≡ i → ⊥) → tick_at d'.stamps j ≡ tick_at d.stamps j
  pub beside : length d'.stamps ≡ limit.slots

-- no tick has moved
pub record TicksStay (d d' : Desk) : Type 0 where
  pub tick : d'.tick ≡ d.tick
  pub stamps : d'.stamps ≡ d.stamps

-- the n octets from a on are those of `new` then, every other octet is as before
pub record OctetsBecome (p : List ℕ) (a n : ℕ) (new : ℕ → ℕ) (p' : List ℕ) : Type 0 where
  pub there : (k : ℕ) → k < n → get_or p' (a + k) 0 ≡ new k
  pub before : (k : ℕ) → k < a → get_or p' k 0 ≡ get_or p k 0
  pub past : (k : ℕ) → a + n ≤ k → get_or p' k 0 ≡ get_or p k 0
  pub size : length p' ≡ length p

-- slot i is free and no free one stands before it; it then holds a session with the ticket answered, the identifier given and 0 octets; the
-- ticket answered is the next one, which rises by 1; the tick counted is kept; the pool is as before
pub record Opened (d : Desk) (p : List ℕ) (m tick t i : ℕ) (r : Turned) : Type 0 where
  pub inside : i < d.slots
  pub free : state_at d.entries i ≡ Free
  pub lowest : (j : ℕ) → j < i → state_at d.entries j ≡ Free → ⊥
  pub entries : EntryBecomes d i (Open (record { ticket = t; tram = m; held = 0 })) r.desk
  pub ticks : TicksBecome d i (seen d tick) r.desk
  pub ticket : t ≡ d.next
  pub next : r.desk.next ≡ d.next + 1
  pub pool : r.pool ≡ p

-- no slot is free; slot i holds the session s, which is idle, and no idle one has a lower ticket; the slot then holds the new session as above, and its octets
-- are 0
pub record Reclaimed (d : Desk) (p : List ℕ) (m tick t i : ℕ) (s : Session) (r : Turned) : Type 0 where
  pub full : (j : ℕ) → j < d.slots → state_at d.entries j ≡ Free → ⊥
  pub inside : i < d.slots
  pub had : state_at d.entries i ≡ Open s
  pub idle : tick_at d.stamps i + idle_ticks ≤ seen d tick
  pub lowest : (j : ℕ) (u : Session) → j < d.slots → state_at d.entries j ≡ Open u → tick_at d.stamps j + idle_ticks ≤ seen d tick → s.ticket ≤ u.ticket
  pub entries : EntryBecomes d i (Open (record { ticket = t; tram = m; held = 0 })) r.desk
  pub ticks : TicksBecome d i (seen d tick) r.desk
  pub ticket : t ≡ d.next
  pub next : r.desk.next ≡ d.next + 1
  pub pool : OctetsBecome p (i * limit.octets) limit.octets (λ k. 0) r.pool

-- an opening is granted in a free slot, or in an idle one
pub data Opens (d : Desk) (p : List ℕ) (m tick t : ℕ) (r : Turned) : Type 0 where
  in_free_slot : (i : ℕ) → Opened d p m tick t i r → Opens d p m tick t r
  in_idle_slot : (i : ℕ) (s : Session) → Reclaimed d p m tick t i s r → Opens d p m tick t r

-- the chunk fits slot i, and stands in the slot's part of the pool from where the octets held ended; the session has as many more octets, the
-- ticket and the identifier that it had; the tick counted is kept; the answer n is the octets then held
pub record Added (d : Desk) (p : List ℕ) (t : ℕ) (chunk : List ℕ) (tick n i : ℕ) (s : Session) (r : Turned) : Type 0 where
  pub slot : OpenAt d t i s
  pub fits : s.held + length chunk ≤ limit.octets
  pub entries : EntryBecomes d i (Open (record { ticket = s.ticket; tram = s.tram; held = s.held + length chunk })) r.desk
  pub ticks : TicksBecome d i (seen d tick) r.desk
  pub answer : n ≡ s.held + length chunk
  pub next : r.desk.next ≡ d.next
  pub pool : OctetsBecome p (i * limit.octets + s.held) (length chunk) (λ k. get_or chunk k 0) r.pool

-- the octets of slot i are 0 and the slot is free; no tick moves; the answer n is 0
pub record Released (d : Desk) (p : List ℕ) (t n i : ℕ) (s : Session) (r : Turned) : Type 0 where
  pub slot : OpenAt d t i s
  pub entries : EntryBecomes d i Free r.desk
  pub ticks : TicksStay d r.desk
  pub answer : n ≡ 0
  pub next : r.desk.next ≡ d.next
  pub zeros : OctetsBecome p (i * limit.octets) limit.octets (λ k. 0) r.pool

pub record Granted : Type 0 where
  pub opens : (d : Desk) (p : List ℕ) → Usable d p → (m tick t : ℕ) → said (open_step d p m tick).answer ≡ told t → Opens d p m tick t (open_step d p m tick)
  pub adds : (d : Desk) (p : List ℕ) → Usable d p → (t : ℕ) (chunk : List ℕ) (tick n : ℕ) → said (add_step d p t chunk tick).answer ≡ told n
      → (i : ℕ) × ((s : Session) × Added d p t chunk tick n i s (add_step d p t chunk tick))
  pub releases : (d : Desk) (p : List ℕ) → Usable d p → (t n : ℕ) → said (release_step d p t).answer ≡ told n
      → (i : ℕ) × ((s : Session) × Released d p t n i s (release_step d p t))
