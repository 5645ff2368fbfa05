-- `cabbook_positions::line_start` meets its contract. Assumes nothing.
use mathlib.Core.Path.{sym, ◌∙◌}
use native.Mathlib.Omega.{arith}
use Rattle.cabbook_positions.specs.Positions.{opens}
use Rattle.cabbook_positions.proofs.PositionLaws.{back_here, back_on, back_end}
use Rattle.cabbook_positions.proofs.line_start.Goals as goal

pub returns-then-line_opens : goal.returns-then-line_opens
returns-then-line_opens c =
    let p = opens c.args.s.now in
    let i = c.loop-i.i in
    (sym (c.loop-i.invariant.0 ∙ back_here p i (omega arith) (sym c.line_opens.ensures ∙ c.if-line_opens.true)), omega arith)

pub loop-i-preserved : goal.loop-i-preserved
loop-i-preserved c =
    let p = opens c.args.s.now in
    let i = c.loop-i.i in
    (c.loop-i.invariant.0 ∙ back_on p i (omega arith) (sym c.line_opens.ensures ∙ c.if-line_opens.false), omega arith)

pub returns : goal.returns
returns c =
    let p = opens c.args.s.now in
    let i = c.loop-i.i in
    (sym (c.loop-i.invariant.0 ∙ back_end p i (omega arith)), omega arith)
