-- `program_output::put_unless` meets its contract. Assumes nothing.
use Rattle.program_output.specs.Pages.{added}
use Rattle.program_output.proofs.put_unless.Goals as goal

pub returns-then-nothing : goal.returns-then-nothing
unfolding added
returns-then-nothing c = rw c.if-nothing.true

pub returns : goal.returns
returns c = rw c.if-nothing.false c.put_all.ensures
