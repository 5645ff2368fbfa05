-- The octet that names each answer in a log. Assumes nothing.
use Rattle.std.specs.Prelude.{ℕ}

abbrev pub refused : ℕ
refused = 0

abbrev pub told : ℕ
told = 1

abbrev pub counts : ℕ
counts = 2

abbrev pub part : ℕ
part = 3
