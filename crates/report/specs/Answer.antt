-- What taking a judgement answers, and the next report. Assumes nothing.
use Rattle.std.specs.Prelude.{ℕ, Result, Ok, Err}
use Rattle.numbers.specs.Refusals.{number}
use Rattle.numbers.specs.declared.refusal.Refusal.{Refusal}
use Rattle.report.specs.declared.Report.{Report}
use Rattle.report.specs.declared.Taken.{Taken as TakenIn}

-- it is counted, or a refusal's number and place
pub data Answer : Type 0 where
  Counted : Answer
  Refused : ℕ → ℕ → Answer

-- the same of a result
abbrev pub answer : Result (Unit {0}) Refusal → Answer
answer (Ok _) = Counted
answer (Err r) = Refused (number r.0) r.1

-- an answer and the next report
pub record Taken : Type 0 where
  pub answer : Answer
  pub report : Report

-- the same of what `take` gives
abbrev pub taken : TakenIn → Taken
taken t = record { answer = answer t.answer; report = t.report }
