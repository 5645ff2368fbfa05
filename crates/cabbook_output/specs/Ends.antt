-- How a command ends. Assumes nothing.
use Rattle.std.specs.Prelude.{ℕ, ◌≤◌}
use Rattle.cabbook_tables.specs.Statuses.{failed}

-- one of the tool's statuses
abbrev pub Status : ℕ → Type 0
Status n = n ≤ failed
