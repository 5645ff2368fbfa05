-- `text_marks::pairs::pair_bit` meets its contract. Assumes nothing.
use lib.Dec.{eqb}
use Rattle.text_marks.specs.Pairs.{unsettled}
use mathlib.Core.Path.{◌≡◌}
use mathlib.Core.Bool.{Bool, not, ◌&&◌, ◌||◌}
use lib.Bits.{bit_or, bit_and}
use mir.Val.{bool_byte}
use Rattle.octets.specs.Classes.{bit}
use Rattle.octets.proofs.BitLaws.{or_bytes, and_bytes, byte_bit, byte_zero, or_four}
use Rattle.text_marks.proofs.pairs.pair_bit.Goals as goal

joined : (p a b c d m : Bool)
    → bit_or (bit_and (bool_byte p) (bool_byte (eqb (bit_or (bit_or (bool_byte a) (bool_byte b)) (bit_or (bool_byte c) (bool_byte d))) 0))) (bit_and (bool_byte (not p)) (bit_and (bool_byte a) (bool_byte (not m))))
    ≡ bit ((p && not ((a || b) || (c || d))) || (not p && (a && not m))) 1
joined p a b c d m =
    let coded = (a || b) || (c || d) in
    let bare = a && not m in
    rw (or_four a b c d, byte_zero coded, and_bytes p (not coded), and_bytes a (not m), and_bytes (not p) bare, or_bytes (p && not coded) (not p && bare))
    (byte_bit ((p && not coded) || (not p && bare)))

pub returns : goal.returns
unfolding unsettled
returns c =
    let a = c.args in
    joined (eqb a.before 92) (eqb a.b 44) (eqb a.b 59) (eqb a.b 110) (eqb a.b 78) a.listed
