-- `cabbook_positions::ends_in_escape` meets its contract. Assumes nothing.
use mathlib.Core.Path.{sym, ◌∙◌}
use Rattle.cabbook_positions.proofs.ComponentLaws.{open_step, open_end}
use Rattle.cabbook_positions.proofs.ends_in_escape.Goals as goal

pub loop-octet-preserved : goal.loop-octet-preserved
loop-octet-preserved c =
    let l = c.loop-octet in
    rw c.opens_escape-waits.ensures (sym (open_step l.waits c.args.s.now l.octet-index c.loop-octet-test.true) ∙ l.invariant)

pub returns : goal.returns
returns c =
    let l = c.loop-octet in
    sym (open_end l.waits c.args.s.now l.octet-index c.loop-octet-test.false) ∙ l.invariant
