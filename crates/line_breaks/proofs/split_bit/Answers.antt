-- `line_breaks::split_bit` meets its contract. Assumes nothing.
use mathlib.Core.Path.{◌≡◌, refl}
use mathlib.Core.Bool.{Bool, true, false}
use lib.Dec.{eqb}
use lib.Bits.{bit_xor}
use mir.Val.{bool_byte}
use Rattle.octets.specs.Classes.{bit}
use Rattle.line_breaks.specs.Lone.{differ}
use Rattle.line_breaks.proofs.split_bit.Goals as goal

two : (x y : Bool) → bit_xor (bool_byte x) (bool_byte y) ≡ bit (differ x y) 1
two true true = refl
two true false = refl
two false true = refl
two false false = refl

pub returns : goal.returns
returns c = two (eqb c.args.a 13) (eqb c.args.b 10)
