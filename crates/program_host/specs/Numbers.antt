-- The numbers of files that are open. Assumes nothing.
use Rattle.std.specs.Prelude.{◌≤◌, ◌<◌, ℤ, pos, negsuc, Option, IfSome}

-- from 3 on, as many as are open at a time
abbrev pub IsNumber : ℤ → Type 0
IsNumber (pos n) = (3 ≤ n) × (n < 67)
IsNumber (negsuc n) = ⊥

-- a file that is opened has such a number
abbrev pub Opened : Option ℤ → Type 0
Opened r = IfSome r IsNumber
