-- That a value, written before a rest, ends where the rest starts. Assumes nothing.
use Rattle.std.specs.Prelude.{ℕ, ◌≡◌, false, List, eqb, length}
use Rattle.octets.specs.Ascii as ascii
use Rattle.octets.specs.Classes.{bare}
use Rattle.line_parser.specs.Parse.{hd}
use Rattle.line_parser.specs.Grammar.{Value, plain, in_quotes}

-- no further octet of a bare value follows it, and no quote mark an empty one
abbrev pub Whole : Value → List ℕ → Type 0
Whole (in_quotes xs) r = Unit {0}
Whole (plain xs) r = (bare (hd r) ≡ false) × (length xs ≡ 0 → eqb (hd r) ascii.quote ≡ false)
