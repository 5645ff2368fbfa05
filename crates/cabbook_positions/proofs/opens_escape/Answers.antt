-- `cabbook_positions::opens_escape` meets its contract. Assumes nothing.
use Rattle.cabbook_positions.proofs.opens_escape.Goals as goal

pub returns-then-waits : goal.returns-then-waits
returns-then-waits c = rw c.if-waits.true

pub returns : goal.returns
returns c = rw c.if-waits.false
