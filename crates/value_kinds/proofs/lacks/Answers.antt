-- `value_kinds::lacks` meets its contract. Assumes nothing.
use borrow.Author.Rules.{rules}
use mathlib.Core.Path.{refl, sym, ◌∙◌}
use native.Mathlib.Omega.{arith}
use Rattle.value_kinds.specs.Octets.{neither}
use Rattle.octets.proofs.CountLaws.{all_step, all_end}
use Rattle.value_kinds.proofs.lacks.Goals as goal

pub loop-x-init : goal.loop-x-init
loop-x-init c = (search rules, refl)

pub loop-x-preserved : goal.loop-x-preserved
loop-x-preserved c =
    let a = c.args in
    (omega arith, c.loop-x.invariant.1 ∙ all_step (neither a.a a.b) a.s.now c.loop-x.x-index c.loop-x-test.true c.loop-x.marks c.mark_bit-marks.result c.mark_bit-marks.ensures)

pub returns : goal.returns
returns c =
    let a = c.args in
    sym (c.loop-x.invariant.1 ∙ all_end (neither a.a a.b) a.s.now c.loop-x.x-index c.loop-x-test.false c.loop-x.marks)
