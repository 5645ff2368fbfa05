-- `utf8_screening::plain::odd_bit` meets its contract. Assumes nothing.
use mathlib.Core.Bool.{not, ◌&&◌, ◌||◌}
use lib.Dec.{ltb, eqb}
use Rattle.octets.proofs.BitLaws.{or_bytes, and_bytes, byte_bit}
use Rattle.utf8_screening.specs.Plain.{odd}
use Rattle.utf8_screening.proofs.plain.odd_bit.Goals as goal

pub returns : goal.returns
unfolding odd
returns c =
    let b = c.args.b in
    let control = ltb b 32 && not (eqb b 9) in
    rw (and_bytes (ltb b 32) (not (eqb b 9)), or_bytes (ltb 126 b) control) (byte_bit (ltb 126 b || control))
