-- `text_marks::see_octet` meets its contract. Assumes nothing.
use native.Mathlib.Omega.{arith}
use Rattle.utf8_screening.specs.Plain.{odd}
use Rattle.text_marks.specs.Seen.{held}
use Rattle.octets.proofs.BitLaws.{bit_le}
use Rattle.text_marks.proofs.SeenLaws.{seen_one}
use Rattle.text_marks.proofs.see_octet.Goals as goal

pub overflow_mul-result : goal.overflow_mul-result
overflow_mul-result c =
    let a = c.args in
    record { fits = omega (arith, bit_le (held a.x a.y a.b)) }

pub overflow_add-result : goal.overflow_add-result
overflow_add-result c =
    let a = c.args in
    omega (arith, bit_le (held a.x a.y a.b), bit_le (odd a.b))

pub returns : goal.returns
returns c =
    let a = c.args in
    seen_one odd (held a.x a.y) a.b c.odd_bit.result c.held_bit.result c.odd_bit.ensures c.held_bit.ensures
