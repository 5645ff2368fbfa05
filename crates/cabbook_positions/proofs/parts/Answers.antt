-- `cabbook_positions::parts` meets its contract. Assumes nothing.
use native.Mathlib.Omega.{arith}
use Rattle.cabbook_positions.proofs.ComponentLaws.{splits_step, splits_end}
use Rattle.cabbook_positions.proofs.parts.Goals as goal

pub loop-octet-preserved : goal.loop-octet-preserved
loop-octet-preserved c =
    let l = c.loop-octet in
    let step = splits_step l.waits c.args.s.now l.octet-index c.loop-octet-test.true in
    rw c.opens_escape-waits.ensures (omega (arith, step, c.part_at-n.ensures.0, c.part_at-n.ensures.1, l.invariant.0, l.invariant.1), omega arith)

pub returns : goal.returns
returns c =
    let l = c.loop-octet in
    omega (arith, splits_end l.waits c.args.s.now l.octet-index c.loop-octet-test.false, l.invariant.0)
