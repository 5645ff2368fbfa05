-- `cabbook_rows::faults::put_about` meets its contract. Assumes nothing.
use Rattle.program_output.specs.Pages.{page}
use Rattle.program_output.proofs.PageLaws.{nothing, piece}
use Rattle.cabbook_rows.proofs.faults.put_about.Goals as goal

pub returns : goal.returns
returns c =
    let a = c.args in
    (piece _ (piece _ (piece _ (nothing (page a.at a.room.now)) c.put_all-before_end.ensures) c.put_cut-name_end.ensures) c.put_all.ensures).sum
