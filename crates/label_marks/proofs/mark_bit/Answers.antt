-- `label_marks::mark_bit` meets its contract. Assumes nothing.
use mathlib.Core.Path.{◌∙◌, ap}
use mathlib.Core.Bool.{◌||◌}
use Prim.Native.Nat.{ℕ}
use lib.Dec.{eqb}
use lib.Bits.{bit_or}
use mir.Val.{bool_byte}
use Rattle.octets.proofs.BitLaws.{or_bytes, byte_bit}
use Rattle.label_marks.specs.Seen.{mark}
use Rattle.label_marks.proofs.mark_bit.Goals as goal

pub returns : goal.returns
unfolding mark
returns c =
    let p = eqb c.args.b 94 in
    let q = eqb c.args.b c.args.x in
    let r = eqb c.args.b c.args.y in
    ap (λ (n : ℕ). bit_or (bool_byte p) n) (or_bytes q r) ∙ or_bytes p (q || r) ∙ byte_bit (p || (q || r))
