-- What a chunk and the end make of a state and a buffer: of those that chunks led to, and of any others. Assumes nothing.
use Rattle.std.specs.Prelude.{ℕ, ◌+◌, ◌-◌, ◌<◌, ◌≤◌, ◌≡◌, List, ◌∷◌, ◌++◌, eqb, ltb, leb, length, take, drop, replicate}
use Rattle.numbers.specs.Limits as limit
use Rattle.numbers.specs.Refusals as refusal
use Rattle.numbers.specs.Refusals.{number}
use Rattle.octets.specs.Pick.{pick}
use Rattle.property_table.specs.declared.Edition.TheVariants.{First}
use Rattle.card_state.specs.State.{Card, Step, Next, Refused as Halted, Flawed, fresh_card}
use Rattle.card_state.specs.Kept.{card_of}
use Rattle.desk_pool.specs.Pools.{patch}
use Rattle.reader.specs.Outcome.{verdict_of, judge_of}
use Rattle.reader.specs.Outcome.{Verdict}
use Rattle.reader.specs.Outcome.{Refused as Judged}
use Rattle.reader_walk.specs.Walk.{settled, judge_lines}
use Rattle.watch_arrivals.specs.Arrivals.{after_other, after_cr, after_cr_lf, tail_from, lone_from, next_from}
use Rattle.watch_lines.specs.Parting.{ended_lines, open_line}
use Rattle.watch_lines.specs.Values.{values_from, buffers_from}
use Rattle.watch_lines.specs.Taking.{kept, judgement, joined_line}
use Rattle.watch.specs.State.{is_none, is_line, is_break, is_over, claims, Sound, After, Reached}
use Rattle.watch.specs.declared.Watch.{Watch}
use Rattle.watch.specs.declared.Arrived.{Arrived}
use Rattle.watch.specs.declared.Arrived.TheVariants.{Next as goes_on, Refused}

-- a state as it is read with its buffer: the card's places stand for the octets that they name there
pub record View : Type 0 where
  pub known : ℕ
  pub fault : ℕ
  pub place : ℕ
  pub start : ℕ
  pub «open» : ℕ
  pub tail : ℕ
  pub used : ℕ
  pub card : Card

unfoldable pub view_of : Watch → List ℕ → View
view_of w b = record {
  known = w.known;
  fault = number w.fault;
  place = w.place;
  start = w.start;
  «open» = w.«open»;
  tail = w.tail;
  used = w.card.used;
  card = card_of w.card b;
}

-- a state that claims nothing of the buffer, after n octets
abbrev pub quiet_view : ℕ → ℕ → ℕ → ℕ → ℕ → View
quiet_view known fault place n tail = record { known = known; fault = fault; place = place; start = n; «open» = 0; tail = tail; used = 0; card = fresh_card }

-- a state with no fault known
abbrev pub open_view : ℕ → ℕ → ℕ → ℕ → Card → View
open_view start left tail used card = record { known = is_none; fault = 0; place = 0; start = start; «open» = left; tail = tail; used = used; card = card }

-- the next state so, and the buffer with it
pub record Came : Type 0 where
  pub view : View
  pub buffer : List ℕ

abbrev pub came : View → List ℕ → Came
came v b = record { view = v; buffer = b }

-- the octets so far
abbrev pub count : Watch → ℕ
count w = w.start + w.«open»

-- the octets that the state claims are 0
abbrev pub cleared : Watch → List ℕ → List ℕ
cleared w b = patch b 0 (replicate (claims w) 0)

-- the lines that have ended with a chunk, the first before its octet k
abbrev pub new_lines : Watch → List ℕ → List ℕ → ℕ → List (List ℕ)
new_lines w b c k = joined_line w.card w.«open» b (take k c) ∷ ended_lines (drop k c)

-- what their judgement leads to, after n octets: with the values a at the front of the buffer b, and the line l that is open then
abbrev pub after_lines : Step → ℕ → ℕ → List ℕ → List ℕ → List ℕ → Came
after_lines (Next d) n tail a b l = came (open_view (n - length l) (length l) tail (length a) d) (patch b (length a) l)
after_lines (Halted k p) n tail a b l = came (quiet_view is_line k p n tail) b
after_lines (Flawed k o) n tail a b l = came (quiet_view is_line k o n tail) b

-- a chunk with which lines end, the first before its octet k
unfoldable pub lines_came : Watch → List ℕ → List ℕ → ℕ → Came
lines_came w b c k =
    after_lines (judge_lines First (new_lines w b c k) w.start (card_of w.card b)) (count w + length c) (tail_from w.tail c)
    (values_from (new_lines w b c k) w.start (card_of w.card b) (kept w.card b))
    (buffers_from (new_lines w b c k) w.start (card_of w.card b) (kept w.card b) b)
    (open_line (drop k c))

-- a chunk with which no fault of 1 or 3 is known, with no fault before: lines end with it, or it stands behind the open line
unfoldable pub octets_came : Watch → List ℕ → List ℕ → Came
octets_came w b c =
    pick (ltb (next_from w.tail c) (length c)) (lines_came w b c (next_from w.tail c))
    (came (open_view w.start (w.«open» + length c) (tail_from w.tail c) w.card.used (card_of w.card b)) (patch b (claims w) c))

-- a chunk: 1 is known, then 3, then the fault of an ended line, or none
unfoldable pub chunk_came : Watch → List ℕ → List ℕ → Came
chunk_came w b c =
    pick (eqb w.known is_over) (came (view_of w b) b)
    (pick (ltb limit.octets (count w + length c)) (came (quiet_view is_over refusal.too_long limit.octets limit.octets after_other) (cleared w b))
    (pick (eqb w.known is_break) (came (quiet_view is_break refusal.lone_cr_or_lf w.place (count w + length c) after_other) b)
    (pick (leb (lone_from w.tail c) (length c))
    (came (quiet_view is_break refusal.lone_cr_or_lf (count w + lone_from w.tail c - 1) (count w + length c) after_other) (cleared w b))
    (pick (eqb w.known is_line) (came (quiet_view is_line (number w.fault) w.place (count w + length c) (tail_from w.tail c)) b)
    (octets_came w b c)))))

-- before the first octet the buffer may hold anything, and is cleared
unfoldable pub begun : Watch → List ℕ → List ℕ
begun w b = pick (eqb (count w) 0) (patch b 0 (replicate limit.octets 0)) b

-- a state and its buffer are what came, and the state can be worked with
pub record Comes (w : Watch) (b : List ℕ) (o : Came) : Type 0 where
  pub view : view_of w b ≡ o.view
  pub buffer : b ≡ o.buffer
  pub sound : Sound w

-- the open line at the end of the input, without its CR LF
abbrev pub last_line : Watch → List ℕ → List ℕ
last_line w b = take (w.«open» - 2) (drop w.card.used b)

-- the end: 1, 2, 3, 4, the fault of an ended line, and what the last line leads to
unfoldable pub end_came : Watch → List ℕ → Verdict
end_came w b =
    pick (eqb w.known is_over) (Judged refusal.too_long limit.octets)
    (pick (eqb (count w) 0) (Judged refusal.empty 0)
    (pick (eqb w.known is_break) (Judged refusal.lone_cr_or_lf w.place)
    (pick (eqb w.tail after_cr) (Judged refusal.lone_cr_or_lf (count w - 1))
    (pick (eqb w.tail after_cr_lf)
    (pick (eqb w.known is_line) (Judged (number w.fault) w.place)
    (verdict_of (count w) (settled w.start (last_line w b) (judgement w.card b (last_line w b) w.start))))
    (Judged refusal.no_end (count w))))))

-- what a chunk c answers, and the buffer then, in each of four cases: a buffer of another length, a claim over it, a state that can't be worked with, and any
-- other; of these, one that was handed on leads to the next
pub record ChunkOf (w : Watch) (b c : List ℕ) (r : Arrived) (b' : List ℕ) : Type 0 where
  pub another : (length b ≡ limit.octets → ⊥) → (r ≡ Refused refusal.buffer_length 0) × (b' ≡ b)
  pub over : length b ≡ limit.octets → limit.octets < claims w → (r ≡ Refused refusal.claim 0) × (b' ≡ b)
  pub goes : length b ≡ limit.octets → claims w ≤ limit.octets → (v : Watch) × (r ≡ goes_on v)
  pub false : length b ≡ limit.octets → claims w ≤ limit.octets → (Sound w → ⊥) → (r ≡ goes_on w) × (b' ≡ b)
  pub sound : length b ≡ limit.octets → claims w ≤ limit.octets → Sound w → (v : Watch) × ((r ≡ goes_on v) × Comes v b' (chunk_came w (begun w b) c))
  pub led : (i : List ℕ) → Reached w b i → length b ≡ limit.octets → (v : Watch) × ((r ≡ goes_on v) × After v b' (i ++ c))
  pub size : length b' ≡ length b

-- what the end answers, in the same cases
pub record EndOf (w : Watch) (b : List ℕ) (v : Verdict) : Type 0 where
  pub another : (length b ≡ limit.octets → ⊥) → v ≡ Judged refusal.buffer_length 0
  pub over : length b ≡ limit.octets → limit.octets < claims w → v ≡ Judged refusal.claim 0
  pub false : length b ≡ limit.octets → claims w ≤ limit.octets → (Sound w → ⊥) → v ≡ Judged refusal.order 0
  pub sound : length b ≡ limit.octets → claims w ≤ limit.octets → Sound w → v ≡ end_came w b
  pub led : (i : List ℕ) → Reached w b i → length b ≡ limit.octets → v ≡ judge_of i
