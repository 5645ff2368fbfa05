-- `label_marks::amiss_bit` meets its contract. Assumes nothing.
use mathlib.Core.Path.{◌≡◌, sym, ap, ◌∙◌}
use mathlib.Core.Bool.{Bool, not, ◌&&◌, ◌||◌}
use Prim.Native.Nat.{ℕ}
use lib.Dec.{eqb}
use lib.Bits.{bit_or, bit_and}
use mir.Val.{bool_byte}
use Rattle.octets.specs.Classes.{bit}
use Rattle.octets.proofs.BitLaws.{or_bytes, and_bytes, byte_bit}
use Rattle.utf8_screening.specs.Plain.{odd}
use Rattle.label_marks.specs.Seen.{amiss}
use Rattle.label_marks.proofs.amiss_bit.Goals as goal

joined : (o n z : Bool) (m : ℕ) → m ≡ bit o 1 → bit_or (bit_and m (bool_byte n)) (bool_byte z) ≡ bit ((o && n) || z) 1
joined o n z m e =
    ap (λ (k : ℕ). bit_or (bit_and k (bool_byte n)) (bool_byte z)) (e ∙ sym (byte_bit o))
    ∙ ap (λ (k : ℕ). bit_or k (bool_byte z)) (and_bytes o n)
    ∙ or_bytes (o && n) z
    ∙ byte_bit ((o && n) || z)

pub returns : goal.returns
unfolding amiss
returns c =
    let a = c.args in
    joined (odd a.b) (not (eqb a.b a.x)) (eqb a.b a.z) c.odd_bit.result c.odd_bit.ensures
