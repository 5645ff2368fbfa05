-- `line_unfolding::fold_bit` meets its contract. Assumes nothing.
use mathlib.Core.Path.{◌≡◌}
use mathlib.Core.Bool.{Bool, ◌&&◌, ◌||◌}
use lib.Dec.{eqb}
use lib.Bits.{bit_and, bit_or}
use mir.Val.{bool_byte}
use Rattle.octets.specs.Classes.{bit}
use Rattle.octets.proofs.BitLaws.{or_bytes, and_bytes, byte_bit}
use Rattle.line_folds.specs.Folds.{fold_at}
use Rattle.line_unfolding.proofs.fold_bit.Goals as goal

joined : (x y z w : Bool) → bit_and (bool_byte x) (bit_and (bool_byte y) (bit_or (bool_byte z) (bool_byte w))) ≡ bit (x && (y && (z || w))) 1
joined x y z w = rw (or_bytes z w, and_bytes y (z || w), and_bytes x (y && (z || w))) (byte_bit (x && (y && (z || w))))

pub returns : goal.returns
unfolding fold_at
returns c = joined (eqb c.args.a 13) (eqb c.args.b 10) (eqb c.args.c 32) (eqb c.args.c 9)
