-- What a merge answers. Assumes nothing.
use Rattle.std.specs.Prelude.{ℕ, Result, Ok, Err}
use Rattle.numbers.specs.Refusals.{number}
use Rattle.numbers.specs.declared.refusal.Refusal.{Refusal}

-- how many pairs, or a refusal's number and place
pub data Paired : Type 0 where
  Pairs : ℕ → Paired
  Refused : ℕ → ℕ → Paired

-- the same of a result
abbrev pub paired : Result ℕ Refusal → Paired
paired (Ok n) = Pairs n
paired (Err r) = Refused (number r.0) r.1
