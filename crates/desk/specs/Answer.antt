-- What a call of the desk answers. Assumes nothing.
use Rattle.std.specs.Prelude.{ℕ, Result, Ok, Err}
use Rattle.numbers.specs.Refusals.{number}
use Rattle.numbers.specs.declared.refusal.Refusal.{Refusal}

-- a ticket, a count of octets or 0; or a refusal's number and place
pub data Answer : Type 0 where
  Done : ℕ → Answer
  Refused : ℕ → ℕ → Answer

-- the same of a result
abbrev pub answer : Result ℕ Refusal → Answer
answer (Ok n) = Done n
answer (Err r) = Refused (number r.0) r.1
