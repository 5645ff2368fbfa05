-- `cabbook_positions::row_start` meets its contract. Assumes nothing.
use borrow.Author.Tests.{eq-eqb, ne_eqb}
use mathlib.Core.Path.{◌≡◌, sym, ◌∙◌}
use Prim.Native.Nat.{◌+◌, ◌-◌}
use native.Mathlib.Omega.{arith}
use Rattle.cabbook_positions.specs.Positions.{begins}
use Rattle.cabbook_positions.proofs.PositionLaws.{back_here, back_on, back_end}
use Rattle.cabbook_positions.proofs.row_start.Goals as goal

pub returns-then-s-i-eq10 : goal.returns-then-s-i-eq10
returns-then-s-i-eq10 c =
    let l = c.loop-i in
    let e : l.i - 1 + 1 ≡ l.i = omega arith in
    e ∙ sym (l.invariant.0 ∙ back_here (begins c.args.s.now) l.i (omega arith) (eq-eqb _ _ c.if-s-i-eq10.true))

pub loop-i-preserved : goal.loop-i-preserved
loop-i-preserved c =
    let l = c.loop-i in
    (l.invariant.0 ∙ back_on (begins c.args.s.now) l.i (omega arith) (ne_eqb _ _ c.if-s-i-eq10.false), omega arith)

pub returns : goal.returns
returns c =
    let l = c.loop-i in
    sym (l.invariant.0 ∙ back_end (begins c.args.s.now) l.i (omega arith))
