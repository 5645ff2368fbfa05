-- The state of a watch: what it is after some octets. Assumes nothing.
use Rattle.std.specs.Prelude.{ℕ, ◌+◌, ◌<◌, ◌≤◌, ◌≡◌, refl, true, false, List, length}
use Rattle.numbers.specs.Limits as limit
use Rattle.numbers.specs.Refusals.{number}
use Rattle.numbers.specs.declared.refusal.Reason.{Reason}
use Rattle.numbers.specs.declared.refusal.Reason.TheVariants.{Other}
use Rattle.numbers.specs.Listed.{is_listed}
use Rattle.card_state.specs.State.{Step, Next}
use Rattle.card_state.specs.Kept.{fresh_kept, card_of}
use Rattle.card_state.specs.declared.Card.{Card as Kept}
use Rattle.card_state.specs.Kept.{KeptStep}
use Rattle.card_state.specs.Kept.{next as next_kept, refused as refused_kept, flawed as flawed_kept}
use Rattle.reader.specs.Outcome.{verdict_of}
use Rattle.reader.specs.Outcome.{Refused as Judged}
use Rattle.watch_arrivals.specs.Arrivals.{after_other, tail_from, lone_from}
use Rattle.watch_lines.specs.Parting.{open_line}
use Rattle.watch_lines.specs.Values.{halted}
use Rattle.watch_lines.specs.Taking.{Within}
use Rattle.watch.specs.Octets.{judged, altid_octets, buffer_after}
use Rattle.watch.specs.declared.Watch.{Watch}

-- which fault is known: none, that of an ended line, a lone CR or LF, an input that is too long
abbrev pub is_none : ℕ
is_none = 0

abbrev pub is_line : ℕ
is_line = 1

abbrev pub is_break : ℕ
is_break = 2

abbrev pub is_over : ℕ
is_over = 3

-- no refusal has the number 0
pub none_has_0 : is_listed 0 ≡ false
unfolding is_listed
none_has_0 = refl

-- the reason of a state with no fault known, whose number is 0
abbrev pub no_reason : Reason
no_reason = Other (record { number = 0; unlisted = none_has_0 })

-- a state that claims nothing of the buffer, after n octets
abbrev pub quiet_state : ℕ → Reason → ℕ → ℕ → ℕ → Watch
quiet_state known fault place n tail = record { known = known; fault = fault; place = place; start = n; «open» = 0; tail = tail; card = fresh_kept }

abbrev pub fresh_watch : Watch
fresh_watch = quiet_state is_none no_reason 0 0 after_other

-- a state with no fault known
abbrev pub open_state : ℕ → ℕ → ℕ → Kept → Watch
open_state start left tail card = record { known = is_none; fault = no_reason; place = 0; start = start; «open» = left; tail = tail; card = card }

-- the state after a line that was refused
abbrev pub stopped_state : KeptStep → ℕ → ℕ → Watch
stopped_state (next_kept c) n tail = quiet_state is_none no_reason 0 n tail
stopped_state (refused_kept k p) n tail = quiet_state is_line k p n tail
stopped_state (flawed_kept k o) n tail = quiet_state is_line k o n tail

-- the octets of the buffer that a state claims: the ALTID values and the open line
abbrev pub claims : Watch → ℕ
claims w = w.card.used + w.«open»

-- the octets so far and how they end can be those of an input
pub record Counts (w : Watch) : Type 0 where
  pub short : w.start + w.«open» ≤ limit.octets
  pub tail : w.tail ≤ w.start + w.«open»
  pub line : (w.known ≡ is_line → ⊥) → w.tail ≤ w.«open»

-- a state that can be worked with
pub record Sound (w : Watch) : Type 0 where
  pub counts : Counts w
  pub card : Within w.card w.start

-- after the octets i no fault is known, and the state with the buffer b says what is known of them
pub record Live (w : Watch) (b i : List ℕ) : Type 0 where
  pub known : w.known ≡ is_none
  pub short : length i ≤ limit.octets
  pub fine : lone_from after_other i ≡ length i + 1
  pub card : judged i ≡ Next (card_of w.card b)
  pub values : w.card.used ≡ length (altid_octets i)
  pub count : w.start + w.«open» ≡ length i
  pub line : w.«open» ≡ length (open_line i)
  pub tail : w.tail ≡ tail_from after_other i
  pub within : Within w.card w.start

-- the state claims nothing of the buffer, after n octets
pub record Quiet (w : Watch) (n : ℕ) : Type 0 where
  pub start : w.start ≡ n
  pub line : w.«open» ≡ 0
  pub card : w.card ≡ fresh_kept

-- an ended line was refused with this number and place
abbrev pub Halts : Step → ℕ → ℕ → Type 0
Halts s n p = (halted s ≡ true) × ((m : ℕ) → verdict_of m s ≡ Judged n p)

-- the fault of an ended line is known
pub record Faulty (w : Watch) (i : List ℕ) : Type 0 where
  pub known : w.known ≡ is_line
  pub short : length i ≤ limit.octets
  pub fine : lone_from after_other i ≡ length i + 1
  pub fault : Halts (judged i) (number w.fault) w.place
  pub quiet : Quiet w (length i)
  pub tail : w.tail ≡ tail_from after_other i

-- a lone CR or LF is known, at this place
pub record Broken (w : Watch) (i : List ℕ) : Type 0 where
  pub known : w.known ≡ is_break
  pub short : length i ≤ limit.octets
  pub place : w.place + 1 ≡ lone_from after_other i
  pub lone : lone_from after_other i ≤ length i
  pub quiet : Quiet w (length i)
  pub tail : w.tail ≡ after_other

-- the input is too long
pub record Over (w : Watch) (i : List ℕ) : Type 0 where
  pub known : w.known ≡ is_over
  pub long : limit.octets < length i
  pub quiet : Quiet w limit.octets
  pub tail : w.tail ≡ after_other

-- the state, with the buffer b, says what is known after the octets i
pub data Stands (w : Watch) (b i : List ℕ) : Type 0 where
  live : Live w b i → Stands w b i
  faulty : Faulty w i → Stands w b i
  broken : Broken w i → Stands w b i
  over : Over w i → Stands w b i

-- and the buffer is that of these octets
pub record After (w : Watch) (b i : List ℕ) : Type 0 where
  pub stands : Stands w b i
  pub holds : b ≡ buffer_after i

-- state and buffer are what the octets i lead to; before the first chunk the buffer may hold anything
pub record Reached (w : Watch) (b i : List ℕ) : Type 0 where
  pub stands : Stands w b i
  pub holds : 0 < length i → b ≡ buffer_after i
