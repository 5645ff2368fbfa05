-- The options of a morning. Assumes nothing.
use Rattle.std.specs.Prelude.{ℕ, Option, Some, None, eqb}
use Rattle.octets.specs.Pick.{pick}

-- an option's number, or the usual one where it is 0 or the option is not named
abbrev pub or_usual : ℕ → Option ℕ → ℕ
or_usual usual (Some n) = pick (eqb n 0) usual n
or_usual usual None = usual

-- the widest that the column of names gets, and the narrowest: that of its title
abbrev pub widest_column : ℕ
widest_column = 40

abbrev pub narrowest_column : ℕ
narrowest_column = 4
