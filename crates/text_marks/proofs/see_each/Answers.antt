-- `text_marks::see_each` meets its contract. Assumes nothing.
use mathlib.Core.Path.{sym}
use native.Mathlib.Omega.{arith}
use lib.ListN.{get_or}
use Rattle.text_marks.proofs.SeenLaws.{seen_none, seen_step}
use Rattle.text_marks.proofs.see_each.Goals as goal

pub loop-b-init : goal.loop-b-init
loop-b-init g c = λ p q h. sym (seen_none p q)

pub loop-b-preserved : goal.loop-b-preserved
loop-b-preserved g c = λ p q h.
    let l = c.loop-b in
    seen_step p q c.args.s.now l.b-index l.bits c.look-bits.result c.loop-b-test.true (l.invariant p q h) (h (get_or c.args.s.now l.b-index 0) _ (omega (arith, c.type_inv.s l.b-index)) c.look-bits.ensures)
