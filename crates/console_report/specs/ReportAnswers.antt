-- What the console answers to a request of the report, and what it keeps then. Assumes nothing.
use Rattle.std.specs.Prelude.{ℕ, ◌-◌, List, ◌++◌, ltb, leb, set}
use Rattle.numbers.specs.Counts as places
use Rattle.numbers.specs.Limits as limit
use Rattle.octets.specs.Pick.{pick}
use Rattle.octets.specs.Room.{fill}
use Rattle.report.specs.Steps.{fresh_report, take_step}
use Rattle.report.specs.Text.{report_text}
use Rattle.report.specs.declared.Report.{Report}
use Rattle.report.specs.Answer.{Answer, Counted, Refused, Taken}
use Rattle.console_answers.specs.Texts.{line_end, bad_line, done_text, refusal_text}
use Rattle.console_entries.specs.Rooms.{most_room, octet_room}
use Rattle.console_entries.specs.Entries.{write_text}
use Rattle.console_desk.specs.DeskAnswers.{State, state_of, says, says_bad, first as first_desk}
use Rattle.console_desk.specs.declared.Console.{Console}
use Rattle.console_report.specs.declared.Kept.{Kept}

-- desk and output, and the report
pub record KeptState : Type 0 where
  pub state : State
  pub report : Report

abbrev pub kept : State → Report → KeptState
kept t r = record { state = t; report = r }

abbrev pub kept_of : Kept → List ℕ → KeptState
kept_of k out = kept (state_of k.console out) k.report

abbrev pub besides : Console → Report → Kept
besides c r = record { console = c; report = r }

-- at first a fresh report
abbrev pub first : Kept
first = besides first_desk fresh_report

-- ---- report, take

abbrev pub fresh_answer : KeptState → KeptState
fresh_answer k = kept (says (done_text 0 ++ line_end) k.state) fresh_report

-- `ok 0`, or the refusal
unfoldable pub taken_text : Answer → List ℕ
taken_text Counted = done_text 0
taken_text (Refused n p) = refusal_text n p

abbrev pub after_take : Taken → State → KeptState
after_take t s = kept (says (taken_text t.answer ++ line_end) s) t.report

unfoldable pub take_answer : List ℕ → KeptState → KeptState
take_answer i k = after_take (take_step k.report i) k.state

-- ---- print

-- more room than that is no request
unfoldable pub print_answer : ℕ → Report → List ℕ
print_answer n r = pick (ltb most_room n) bad_line (write_text (fill (report_text r) (octet_room n)))

abbrev pub prints_answer : ℕ → KeptState → KeptState
prints_answer n k = kept (says (print_answer n k.report) k.state) k.report

-- ---- count

-- the place of the count that the console calls so: the first five from 0 on, 100 and a refusal's number, 200 and a property's; past all for none
unfoldable pub place_past : ℕ → ℕ
place_past w = pick (ltb w 140) places.all (pick (ltb w 144) (w - 124) (pick (ltb w 200) places.all (pick (ltb w 239) (w - 180) places.all)))

unfoldable pub place_named : ℕ → ℕ
place_named w =
    pick (ltb w 5) w
    (pick (ltb w 101) places.all (pick (ltb w 106) (w - 96) (pick (ltb w 107) places.all (pick (ltb w 113) (w - 97) (place_past w)))))

abbrev pub with_count : Report → ℕ → ℕ → Report
with_count r p n = record { counts = set r.counts p n }

-- no such count, or a number over 32 bits, is no request
unfoldable pub count_answer : ℕ → ℕ → KeptState → KeptState
count_answer w n k =
    pick (leb places.all (place_named w)) (kept (says_bad k.state) k.report)
    (pick (ltb limit.largest n) (kept (says_bad k.state) k.report)
    (kept (says (done_text n ++ line_end) k.state) (with_count k.report (place_named w) n)))
