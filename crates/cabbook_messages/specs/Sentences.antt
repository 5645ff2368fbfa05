-- Counts and refusals in words. Assumes nothing.
use Rattle.std.specs.Prelude.{ℕ, List, [], ◌++◌, eqb}
use Rattle.octets.specs.Pick.{pick}
use Rattle.octets.specs.Ascii.{octets}
use Rattle.program_output.specs.Digits.{decimal}

-- a number and the text that follows it
abbrev pub amount : ℕ → List ℕ → List ℕ
amount n text = decimal n ++ text

-- a number and the name of what is counted, with an s but for one
abbrev pub counted : ℕ → List ℕ → List ℕ
counted n thing = amount n thing ++ pick (eqb n 1) [] (octets "s")

abbrev pub refusal : ℕ → ℕ → List ℕ
refusal number place = octets "refused " ++ amount number (octets " at octet ") ++ decimal place
