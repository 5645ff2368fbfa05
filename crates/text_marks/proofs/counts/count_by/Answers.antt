-- `text_marks::counts::count_by` meets its contract. Assumes nothing.
use mathlib.Core.Path.{sym, ◌∙◌}
use Prim.Native.Nat.{◌≤◌}
use native.Mathlib.Nat.{zero-add}
use native.Mathlib.Omega.{arith}
use lib.ListN.{get_or}
use Rattle.octets.proofs.CountLaws.{count_step, count_end}
use Rattle.text_marks.proofs.counts.count_by.Goals as goal

pub loop-b-init : goal.loop-b-init
loop-b-init g c = (omega arith, λ p h. sym (zero-add _))

pub overflow_add-n : goal.overflow_add-n
overflow_add-n g c =
    let l = c.loop-b in
    let one : c.mark.result ≤ 1 = c.requires.bits (get_or c.args.s.now l.b-index 0) _ (omega (arith, c.type_inv.s l.b-index)) c.mark.ensures in
    omega (arith, one)

pub loop-b-preserved : goal.loop-b-preserved
loop-b-preserved g c =
    let l = c.loop-b in
    let s = c.args.s.now in
    let one : c.mark.result ≤ 1 = c.requires.bits (get_or s l.b-index 0) _ (omega (arith, c.type_inv.s l.b-index)) c.mark.ensures in
    (omega (arith, one), λ p h. l.invariant.1 p h ∙ count_step p s l.b-index c.loop-b-test.true l.n c.mark.result (h (get_or s l.b-index 0) _ (omega (arith, c.type_inv.s l.b-index)) c.mark.ensures))

pub returns : goal.returns
returns g c =
    let l = c.loop-b in
    record { value = λ p h. sym (l.invariant.1 p h ∙ count_end p c.args.s.now l.b-index c.loop-b-test.false l.n); bound = omega arith }
