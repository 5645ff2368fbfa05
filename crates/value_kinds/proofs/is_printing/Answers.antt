-- `value_kinds::is_printing` meets its contract. Assumes nothing.
use borrow.Author.Rules.{rules}
use mathlib.Core.Path.{refl, sym, ◌∙◌}
use native.Mathlib.Omega.{arith}
use Rattle.value_kinds.specs.Octets.{graphic, holds}
use Rattle.octets.proofs.CountLaws.{all_step, all_end}
use Rattle.value_kinds.proofs.is_printing.Goals as goal

pub loop-x-init : goal.loop-x-init
loop-x-init c = (search rules, refl)

pub loop-x-preserved : goal.loop-x-preserved
loop-x-preserved c =
    let a = c.args in
    (omega arith, c.loop-x.invariant.1 ∙ all_step (holds graphic) a.s.now c.loop-x.x-index c.loop-x-test.true c.loop-x.hidden c.hidden_bit-hidden.result c.hidden_bit-hidden.ensures)

pub returns : goal.returns
returns c =
    let a = c.args in
    sym (c.loop-x.invariant.1 ∙ all_end (holds graphic) a.s.now c.loop-x.x-index c.loop-x-test.false c.loop-x.hidden)
