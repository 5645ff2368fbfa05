-- `label_marks::see_octet` meets its contract. Assumes nothing.
use native.Mathlib.Omega.{arith}
use Rattle.label_marks.specs.Seen.{mark, amiss}
use Rattle.octets.proofs.BitLaws.{bit_le}
use Rattle.text_marks.proofs.SeenLaws.{seen_one}
use Rattle.label_marks.proofs.see_octet.Goals as goal

pub overflow_mul-result : goal.overflow_mul-result
overflow_mul-result c =
    let a = c.args in
    record { fits = omega (arith, bit_le (mark a.x a.y a.b)) }

pub overflow_add-result : goal.overflow_add-result
overflow_add-result c =
    let a = c.args in
    omega (arith, bit_le (mark a.x a.y a.b), bit_le (amiss a.x a.z a.b))

pub returns : goal.returns
returns c =
    let a = c.args in
    seen_one (amiss a.x a.z) (mark a.x a.y) a.b c.amiss_bit.result c.mark_bit.result c.amiss_bit.ensures c.mark_bit.ensures
