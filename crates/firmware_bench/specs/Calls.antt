-- Calls of one kind to a desk of 40 slots, one after the other, as the desk's own steps. Assumes nothing.
use Rattle.std.specs.Prelude.{ℕ, zero, suc, ◌+◌, List, eqb, ltb}
use Rattle.numbers.specs.Limits as limit
use Rattle.octets.specs.Pick.{pick}
use Rattle.reader.specs.Outcome.{Verdict}
use Rattle.reader.specs.Outcome.{Accepted, Refused as Unread}
use Rattle.desk.specs.Steps.{Turned, turned, new_step, open_step, add_step, release_step, held_step, judge_step}
use Rattle.desk.specs.Answer.{Answer, Done, Refused}
use Rattle.desk.specs.declared.Desk.{Desk}

-- the ticket after t, and 1 after the last
abbrev pub next_ticket : ℕ → ℕ → ℕ
next_ticket t last = pick (ltb t last) (t + 1) 1

abbrev pub verdict_answer : Verdict → Answer
verdict_answer (Accepted cards lines) = Done cards
verdict_answer (Unread n p) = Refused n p

-- ---- the kinds of calls, as C numbers them; any other number judges

abbrev pub open_kind : ℕ
open_kind = 0

abbrev pub add_kind : ℕ
add_kind = 1

abbrev pub release_kind : ℕ
release_kind = 2

abbrev pub held_kind : ℕ
held_kind = 3

-- a call that leaves desk and pool as they are
abbrev pub asked : Desk → List ℕ → Answer → Turned
asked d p a = record { answer = a; desk = d; pool = p }

-- one call of a kind, at tick 0
unfoldable pub call_step : Desk → List ℕ → List ℕ → ℕ → ℕ → Turned
call_step d p q kind t =
    pick (eqb kind open_kind) (open_step d p t 0)
    (pick (eqb kind add_kind) (add_step d p t q 0)
    (pick (eqb kind release_kind) (release_step d p t)
    (pick (eqb kind held_kind) (asked d p (held_step d p t))
    (asked d p (verdict_answer (judge_step d p t))))))

-- k calls, the first of them on ticket t
unfoldable pub run : List ℕ → ℕ → ℕ → ℕ → ℕ → Turned → Turned
run q kind last t zero s = s
run q kind last t (suc k) s = run q kind last (next_ticket t last) k (call_step s.desk s.pool q kind t)

-- uploads opened on a fresh desk, additions to them, and then n calls of a kind
unfoldable pub served : List ℕ → List ℕ → ℕ → ℕ → ℕ → ℕ → Turned
served p q opens adds kind n = run q kind opens 1 n (run q add_kind opens 1 adds (run q open_kind opens 1 opens (turned (new_step limit.slots) p)))
