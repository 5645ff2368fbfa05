-- What the planner and the checker answer and write, by REFERENCE, Two edits of one card. Assumes nothing.
use Rattle.std.specs.Prelude.{ℕ, ◌*◌, ◌/◌, true, List, ltb, length, replicate}
use Rattle.numbers.specs.Limits as limit
use Rattle.numbers.specs.Refusals as refusal
use Rattle.octets.specs.Pick.{pick}
use Rattle.octets.specs.Room.{overlay}
use Rattle.reader.specs.Outcome.{Taken}
use Rattle.reader.specs.Outcome.{Verdict}
use Rattle.reader.specs.Outcome.{Accepted, Refused as Halted}
use Rattle.merge_sources.specs.Row.{row_of}
use Rattle.merge_sources.specs.declared.Source.{Source}
use Rattle.merge_sources.specs.declared.Row.{Row}
use Rattle.merge_partners.specs.Pairs.{First as Joining, joined, first_of, pairs_from}
use Rattle.merge.specs.Paired.{Paired, Pairs, Refused}
use Rattle.merge.specs.Sides.{Side, side, read_of, Settled, settle_of}
use Rattle.merge.specs.Plans.{flatten, enter_all, covers_from}

-- an answer, and what the room holds then
pub record Planned : Type 0 where
  pub answer : Paired
  pub room : List ℕ

abbrev pub planned : Paired → List ℕ → Planned
planned a room = record { answer = a; room = room }

-- 14 counts two numbers a pair; nothing is written on a refusal
abbrev pub write_by : Paired → List ℕ → List ℕ → Planned
write_by (Pairs n) p out =
    pick (ltb (length out) (n * 2)) (planned (Refused refusal.record_room (n * 2)) out) (planned (Pairs n) (overlay (flatten (pairs_from p 0 limit.lines)) out))
write_by (Refused n p) q out = planned (Refused n p) out

abbrev pub write_of : Settled → List ℕ → Planned
write_of s out = write_by s.answer s.partners out

abbrev pub no_partners : List ℕ
no_partners = replicate limit.lines 0

-- the first card's refusals as the reader gives them, then the second's
abbrev pub plan_by : Verdict → Verdict → Taken → Taken → Row → Row → List ℕ → Planned
plan_by (Halted n p) v x y a b out = planned (Refused n p) out
plan_by (Accepted k n) (Halted m p) x y a b out = planned (Refused m p) out
plan_by (Accepted ka na) (Accepted kb nb) x y a b out =
    write_of (settle_of (side x.copy x.records ka na) (side y.copy y.records kb nb) a b no_partners) out

unfoldable pub plan_rows : List ℕ → List ℕ → Row → Row → List ℕ → Planned
plan_rows i j a b out = plan_by (read_of i).answer (read_of j).answer (read_of i) (read_of j) a b out

unfoldable pub plan_outcome : List ℕ → List ℕ → List Source → List Source → List ℕ → Planned
plan_outcome i j m n out = plan_rows i j (row_of m) (row_of n) out

-- a plan that can be entered, and has each demanded pair
abbrev pub entered : Joining → List ℕ → List ℕ → Paired
entered f p plan =
    pick f.ok (pick (covers_from p f.partners 0 limit.lines) (Pairs (length plan / 2)) (Refused refusal.plan 0)) (Refused refusal.plan 0)

unfoldable pub plan_in : Side → Side → List ℕ → Joining
plan_in x y plan =
    first_of (enter_all x.copy x.records x.lines y.copy y.records y.lines (joined true no_partners no_partners) plan)

abbrev pub judge_by : Paired → List ℕ → Side → Side → List ℕ → Paired
judge_by (Pairs n) p x y plan = entered (plan_in x y plan) p plan
judge_by (Refused n p) q x y plan = Refused n p

abbrev pub judge_of : Settled → Side → Side → List ℕ → Paired
judge_of s x y plan = judge_by s.answer s.partners x y plan

abbrev pub check_by : Verdict → Verdict → Taken → Taken → Row → Row → List ℕ → Paired
check_by (Halted n p) v x y a b plan = Refused n p
check_by (Accepted k n) (Halted m p) x y a b plan = Refused m p
check_by (Accepted ka na) (Accepted kb nb) x y a b plan =
    judge_of (settle_of (side x.copy x.records ka na) (side y.copy y.records kb nb) a b no_partners)
    (side x.copy x.records ka na) (side y.copy y.records kb nb) plan

unfoldable pub check_rows : List ℕ → List ℕ → Row → Row → List ℕ → Paired
check_rows i j a b plan = check_by (read_of i).answer (read_of j).answer (read_of i) (read_of j) a b plan

unfoldable pub check_outcome : List ℕ → List ℕ → List Source → List Source → List ℕ → Paired
check_outcome i j m n plan = check_rows i j (row_of m) (row_of n) plan
