-- What the console answers to a request of the desk, and what it keeps then: desk, pool and output. Assumes nothing.
use Rattle.std.specs.Prelude.{ℕ, ◌+◌, ◌-◌, List, ◌++◌, Bool, false, ltb, leb, length, take}
use Rattle.numbers.specs.Limits as limit
use Rattle.octets.specs.Pick.{pick}
use Rattle.octets.specs.Room.{overlay}
use Rattle.octets.specs.Slices.{part}
use Rattle.desk.specs.Steps.{Turned, new_step, open_step, add_step, release_step, show_step, held_step, judge_step}
use Rattle.desk.specs.Answer.{answer}
use Rattle.desk.specs.declared.Desk.{Desk}
use Rattle.desk.specs.declared.Turn.{Turn}
use Rattle.program_output.specs.Pages.{Page, page, added}
use Rattle.console_answers.specs.Texts.{line_end, bad_line, done_text, verdict_text, answer_text, octets_word}
use Rattle.console_entries.specs.Rooms.{octet_room}
use Rattle.console_desk.specs.declared.Console.{Console}
use Rattle.console_desk.specs.declared.Change.{Change}
use Rattle.console_desk.specs.declared.Change.TheVariants.{Open, Add, Release}
use Rattle.console_desk.specs.declared.Look.{Look}
use Rattle.console_desk.specs.declared.Look.TheVariants.{Check, Show, Held}

-- the desk, how much pool is lent to it, and the output
pub record State : Type 0 where
  pub desk : Desk
  pub size : ℕ
  pub output : Page

abbrev pub state : Desk → ℕ → Page → State
state d size o = record { desk = d; size = size; output = o }

abbrev pub state_of : Console → List ℕ → State
state_of c out = state c.desk c.size (page c.at out)

-- the same, and the pool
pub record WithPool : Type 0 where
  pub state : State
  pub pool : List ℕ

abbrev pub with_pool : State → List ℕ → WithPool
with_pool t pool = record { state = t; pool = pool }

-- at first a refused desk, an empty pool and nothing to send
abbrev pub first : Console
first = record { desk = (new_step 0).desk; size = 0; at = 0 }

abbrev pub moved : Console → ℕ → Console
moved c at = record { desk = c.desk; size = c.size; at = at }

-- a text is added to the output
abbrev pub says : List ℕ → State → State
says text t = state t.desk t.size (added text t.output)

-- the line of an answer ends, after what was added
abbrev pub ends_line : State → Page → State
ends_line t o = state t.desk t.size (added line_end o)

abbrev pub says_bad : State → State
says_bad t = says bad_line t

-- a call's answer and the next desk
abbrev pub after_turn : Turn → ℕ → Page → State
after_turn t size o = state t.desk size (added (answer_text (answer t.answer) ++ line_end) o)

-- ---- desk, next

-- a pool larger than there is room for is no request
unfoldable pub desk_answer : ℕ → ℕ → State → List ℕ → WithPool
desk_answer slots n t pool =
    pick (ltb (length pool) n) (with_pool (says_bad t) pool) (with_pool (after_turn (new_step slots) n t.output) (overlay (octet_room n) pool))

abbrev pub with_next : Desk → ℕ → Desk
with_next d n = record { entries = d.entries; slots = d.slots; next = n; tick = d.tick; stamps = d.stamps }

-- a number over 32 bits is no request
unfoldable pub next_answer : ℕ → State → State
next_answer n t = pick (ltb limit.largest n) (says_bad t) (state (with_next t.desk n) t.size (added (done_text n ++ line_end) t.output))

-- ---- open, add, release

-- a call has a number of 32 bits, and the pool that is lent is there
unfoldable pub callable : ℕ → ℕ → List ℕ → Bool
callable n size pool = pick (ltb limit.largest n) false (leb size (length pool))

-- and a tick of 32 bits
unfoldable pub ticked : ℕ → ℕ → ℕ → List ℕ → Bool
ticked n tick size pool = pick (ltb limit.largest tick) false (callable n size pool)

abbrev pub change_of : Change → Desk → List ℕ → ℕ → ℕ → List ℕ → Turned
change_of Open d p n tick chunk = open_step d p n tick
change_of Add d p n tick chunk = add_step d p n chunk tick
change_of Release d p n tick chunk = release_step d p n

-- a call over the part of the pool that is lent
abbrev pub over : Turned → State → List ℕ → WithPool
over u t pool = with_pool (state u.desk t.size (added (answer_text u.answer ++ line_end) t.output)) (overlay u.pool pool)

unfoldable pub change_answer : Change → ℕ → ℕ → List ℕ → State → List ℕ → WithPool
change_answer w n tick chunk t pool =
    pick (ticked n tick t.size pool) (over (change_of w t.desk (take t.size pool) n tick chunk) t pool) (with_pool (says_bad t) pool)

-- ---- check, show, held, pool

unfoldable pub look_text : Look → Desk → List ℕ → ℕ → List ℕ
look_text Check d p n = verdict_text (judge_step d p n)
look_text Show d p n = octets_word (show_step d p n).octets
look_text Held d p n = answer_text (held_step d p n)

unfoldable pub look_answer : Look → ℕ → State → List ℕ → State
look_answer w n t pool =
    pick (callable n t.size pool) (says (look_text w t.desk (take t.size pool) n ++ line_end) t) (says_bad t)

-- so many octets from a place on lie in the pool that is lent
unfoldable pub lies : ℕ → ℕ → List ℕ → Bool
lies from count lent = pick (ltb (length lent) from) false (leb count (length lent - from))

abbrev pub part_of : ℕ → ℕ → State → List ℕ → State
part_of from count t lent = pick (lies from count lent) (says (octets_word (part lent from (from + count)) ++ line_end) t) (says_bad t)

unfoldable pub pool_answer : ℕ → ℕ → State → List ℕ → State
pool_answer from count t pool = part_of from count t (part pool 0 t.size)
