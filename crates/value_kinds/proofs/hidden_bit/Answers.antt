-- `value_kinds::hidden_bit` meets its contract. Assumes nothing.
use mathlib.Core.Path.{◌≡◌, sym, ◌∙◌}
use mathlib.Core.Bool.{not}
use Prim.Native.Nat.{ℕ}
use lib.Bits.{bit_or}
use lib.Dec.{ltb}
use mir.Val.{bool_byte}
use Rattle.octets.specs.Classes.{bit}
use Rattle.value_kinds.specs.Octets.{graphic, holds}
use Rattle.octets.proofs.Bools.{two_bits, leb_not}
use Rattle.value_kinds.proofs.hidden_bit.Goals as goal

hidden : (x : ℕ) → bit_or (bool_byte (ltb x 33)) (bool_byte (ltb 126 x)) ≡ bit (not (holds graphic x)) 1
unfolding holds
hidden x = two_bits (ltb x 33) (ltb 126 x) ∙ sym (rw (leb_not 33 x, leb_not x 126))

pub returns : goal.returns
returns c = hidden c.args.x
