-- What the console answers to a request of the reader of chunks, and what it keeps then. Assumes nothing.
use Rattle.std.specs.Prelude.{ℕ, min, ◌≡◌, Bool, List, ◌++◌, ltb, length, take}
use Rattle.numbers.specs.Limits as limit
use Rattle.octets.specs.Pick.{pick}
use Rattle.octets.specs.Room.{overlay}
use Rattle.program_numbers.specs.Alike.{alike}
use Rattle.reader.specs.Outcome.{Verdict}
use Rattle.watch.specs.State.{fresh_watch}
use Rattle.watch.specs.Outcome.{ChunkOf, EndOf}
use Rattle.watch.specs.declared.Watch.{Watch}
use Rattle.watch.specs.declared.Arrived.{Arrived}
use Rattle.watch.specs.declared.Arrived.TheVariants.{Next, Refused}
use Rattle.console_answers.specs.Texts.{line_end, bad_line, done_text, refusal_text, verdict_text, room_end}
use Rattle.console_entries.specs.Rooms.{octet_room}
use Rattle.console_desk.specs.DeskAnswers.{moved, says, part_of}
use Rattle.console_report.specs.ReportAnswers.{KeptState, kept, kept_of, besides, first as first_kept}
use Rattle.console_report.specs.declared.Kept.{Kept}
use Rattle.console_watch.specs.declared.Session.{Session}

-- the most octets of a buffer
abbrev pub most_buffer : ℕ
most_buffer = 20000

-- desk, output and report, the state of the reader of chunks, and how much buffer is lent to it
pub record Watching : Type 0 where
  pub kept : KeptState
  pub watch : Watch
  pub size : ℕ

abbrev pub watching : KeptState → Watch → ℕ → Watching
watching k w n = record { kept = k; watch = w; size = n }

abbrev pub watching_of : Session → List ℕ → Watching
watching_of s out = watching (kept_of s.kept out) s.watch s.size

-- the same, and the buffer
pub record WithBuffer : Type 0 where
  pub state : Watching
  pub buffer : List ℕ

abbrev pub with_buffer : Watching → List ℕ → WithBuffer
with_buffer t b = record { state = t; buffer = b }

abbrev pub session : Kept → Watch → ℕ → Session
session k w n = record { kept = k; watch = w; size = n }

-- at first a fresh state and an empty buffer
abbrev pub first : Session
first = session first_kept fresh_watch 0

-- the output stands elsewhere
abbrev pub shown_at : ℕ → Session → Session
shown_at at s = session (besides (moved s.kept.console at) s.kept.report) s.watch s.size

-- a text is added to the output
abbrev pub adds : List ℕ → KeptState → KeptState
adds text k = kept (says text k.state) k.report

abbrev pub says_all : List ℕ → Watching → Watching
says_all text t = watching (adds text t.kept) t.watch t.size

abbrev pub says_bad : Watching → Watching
says_bad t = says_all bad_line t

-- `ok NUMBER`, a whole line
abbrev pub done_line : ℕ → List ℕ
done_line n = done_text n ++ line_end

-- ---- begin, claim, buffer

-- a buffer larger than there is room for is no request
unfoldable pub begin_answer : ℕ → Watching → List ℕ → WithBuffer
begin_answer n t b =
    pick (ltb (length b) n) (with_buffer (says_bad t) b) (with_buffer (watching (adds (done_line 0) t.kept) fresh_watch n) (overlay (octet_room n) b))

-- a state that claims so many octets of the line that has not ended
abbrev pub claims : ℕ → Watch → Watch
claims n w = record { known = w.known; fault = w.fault; place = w.place; start = w.start; «open» = n; tail = w.tail; card = w.card }

-- a number over 32 bits is no request
unfoldable pub claim_answer : ℕ → Watching → Watching
claim_answer n t = pick (ltb limit.largest n) (says_bad t) (watching (adds (done_line n) t.kept) (claims n t.watch) t.size)

-- how many octets of a buffer are lent
abbrev pub lent_length : ℕ → List ℕ → ℕ
lent_length size b = min size (min (length b) most_buffer)

-- the part of the buffer that is lent
abbrev pub lent : Watching → List ℕ → List ℕ
lent t b = take (lent_length t.size b) b

-- so many octets from a place on that do not lie in it are no request
unfoldable pub buffer_answer : ℕ → ℕ → Watching → List ℕ → Watching
buffer_answer from count t b = watching (kept (part_of from count t.kept.state (lent t b)) t.kept.report) t.watch t.size

-- ---- end, chunk

-- a verdict that the state ends with is told, and nothing else changes
pub record EndTurn (t : Watching) (b : List ℕ) (u : Watching) : Type 0 where
  pub verdict : Verdict
  pub ends : EndOf t.watch (lent t b) verdict
  pub says : u ≡ says_all (verdict_text verdict ++ line_end) t

-- `ok 0`, or the refusal and whether the buffer is as it was
unfoldable pub arrived_text : Arrived → Bool → List ℕ
arrived_text (Next w) same = done_line 0
arrived_text (Refused n p) same = refusal_text n p ++ room_end same

-- a refused chunk leaves the state as it was
abbrev pub next_of : Arrived → Watch → Watch
next_of (Next w) v = w
next_of (Refused n p) v = v

abbrev pub after_chunk : Arrived → Bool → Watching → Watching
after_chunk a same t = watching (adds (arrived_text a same) t.kept) (next_of a t.watch) t.size

-- an answer that the state gives to a chunk over a buffer is told, the next state is kept, and the buffer is what the chunk leaves
pub record ChunkLent (c : List ℕ) (t : Watching) (b : List ℕ) (u : Watching) (b' : List ℕ) : Type 0 where
  pub arrived : Arrived
  pub chunk : ChunkOf t.watch b c arrived b'
  pub says : u ≡ after_chunk arrived (alike b b') t

-- the same over the part of the buffer that is lent
pub record ChunkTurn (c : List ℕ) (x y : WithBuffer) : Type 0 where
  pub left : List ℕ
  pub told : ChunkLent c x.state (lent x.state x.buffer) y.state left
  pub holds : y.buffer ≡ overlay left x.buffer
