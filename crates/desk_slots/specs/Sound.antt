-- A sound desk by its entries, slot count, next ticket and ticks, in the words of REFERENCE, The desk and as a test. Assumes nothing.
use Rattle.std.specs.Prelude.{ℕ, ◌<◌, ◌≤◌, ◌≡◌, Bool, false, not, List, leb, get_or}
use Rattle.numbers.specs.Limits as limit
use Rattle.octets.specs.Pick.{pick}
use Rattle.desk_entries.specs.Entries.{ticket_of, fits}
use Rattle.desk_entries.specs.Search.{all_at, any_at, column, among}
use Rattle.desk_entries.specs.Ticks.{ahead_by}
use Rattle.desk_entries.specs.declared.Session.{Session}
use Rattle.desk_entries.specs.declared.State.{State}
use Rattle.desk_entries.specs.declared.State.TheVariants.{Free, Open}
use Rattle.desk_entries.specs.declared.Entry.{Entry}

abbrev pub none : Entry
none = record { state = Free }

-- the state of entry i
abbrev pub state_at : List Entry → ℕ → State
state_at es i = (get_or es i none).state

-- what a session has to be where the next ticket is this
pub record Fit (next : ℕ) (s : Session) : Type 0 where
  pub low : 1 ≤ s.ticket
  pub high : s.ticket < next
  pub room : s.held ≤ limit.octets

-- slot count in range; entries past it free; open tickets distinct, at least 1 and below the next ticket; octets held at most 16,384;
-- next ticket at least 1
pub record Sound (es : List Entry) (slots next : ℕ) : Type 0 where
  pub some : 1 ≤ slots
  pub most : slots ≤ limit.slots
  pub first : 1 ≤ next
  pub past : (i : ℕ) → slots ≤ i → i < limit.slots → state_at es i ≡ Free
  pub each : (i : ℕ) → i < limit.slots → (s : Session) → state_at es i ≡ Open s → Fit next s
  pub distinct : (i j : ℕ) → i < limit.slots → j < limit.slots → (s u : Session) → state_at es i ≡ Open s → state_at es j ≡ Open u → s.ticket ≡ u.ticket → i ≡ j

-- the tick that an open entry keeps: that of its opening or last accepted add
abbrev pub tick_at : List ℕ → ℕ → ℕ
tick_at stamps i = column stamps i

-- the same, and no open entry is ahead of the desk's tick
pub record SoundAt (es : List Entry) (slots next : ℕ) (stamps : List ℕ) (tick : ℕ) : Type 0 where
  pub entries : Sound es slots next
  pub behind : (i : ℕ) → i < limit.slots → (s : Session) → state_at es i ≡ Open s → tick_at stamps i ≤ tick

abbrev pub ticket_at : List Entry → ℕ → ℕ
ticket_at es i = ticket_of (state_at es i)

abbrev pub fits_at : List Entry → ℕ → ℕ → ℕ → Bool
fits_at es slots next i = fits slots next i (state_at es i)

-- entry i fits, and no entry before it has its ticket
unfoldable pub good_at : List Entry → ℕ → ℕ → ℕ → Bool
good_at es slots next i = pick (fits_at es slots next i) (not (among (ticket_at es) (ticket_at es i) i)) false

unfoldable pub bounds : ℕ → ℕ → Bool
bounds slots next = pick (leb 1 slots) (pick (leb slots limit.slots) (leb 1 next) false) false

unfoldable pub sound : List Entry → ℕ → ℕ → Bool
sound es slots next = pick (bounds slots next) (all_at (good_at es slots next) 0 limit.slots) false

-- an entry with a ticket is ahead of the desk's tick
unfoldable pub ahead_in : List Entry → List ℕ → ℕ → Bool
ahead_in es stamps tick = any_at (ahead_by (ticket_at es) (tick_at stamps) tick) limit.slots

unfoldable pub sound_at : List Entry → ℕ → ℕ → List ℕ → ℕ → Bool
sound_at es slots next stamps tick = pick (sound es slots next) (not (ahead_in es stamps tick)) false
