-- The statuses with which the tool ends. Assumes nothing.
use Rattle.std.specs.Prelude.{ℕ}

-- all is accepted
abbrev pub accepted : ℕ
accepted = 0

-- something is refused, or an upload differs from its file
abbrev pub refused : ℕ
refused = 1

-- wrong use, or a file that can't be read
abbrev pub failed : ℕ
failed = 2
