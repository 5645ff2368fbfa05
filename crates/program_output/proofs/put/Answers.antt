-- `program_output::put` meets its contract. Assumes nothing.
use Rattle.program_output.specs.Pages.{added}
use Rattle.program_output.proofs.PageLaws.{one_fits, one_full}
use Rattle.program_output.proofs.put.Goals as goal

pub returns-then-at-room : goal.returns-then-at-room
unfolding added
returns-then-at-room c =
    let a = c.args in
    one_fits a.octet a.at a.room.now c.if-at-room.true

pub returns : goal.returns
unfolding added
returns c =
    let a = c.args in
    one_full a.octet a.at a.room.now c.if-at-room.false
