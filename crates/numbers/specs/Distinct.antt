-- No two refusals, properties or kinds have one number. Assumes nothing.
use Rattle.std.specs.Prelude.{ℕ, ◌<◌, ◌≡◌, List, length, get_or}
use Rattle.numbers.specs.Refusals.{refusals}
use Rattle.numbers.specs.Properties.{properties}
use Rattle.numbers.specs.Kinds.{kinds}

-- numbers that stand at two places of a list are two numbers
abbrev pub NoTwo : List ℕ → Type 0
NoTwo xs = (i j : ℕ) → i < j → j < length xs → get_or xs i 0 ≡ get_or xs j 0 → ⊥

pub record Distinct : Type 0 where
  pub refusals : NoTwo refusals
  pub properties : NoTwo properties
  pub kinds : NoTwo kinds
