-- `cabbook_rows::rows::put_name` meets its contract. Assumes nothing.
use Rattle.octets.specs.Ascii.{octets}
use Rattle.program_output.specs.Pages.{page}
use Rattle.program_output.proofs.PageLaws.{nothing, piece}
use Rattle.cabbook_rows.proofs.rows.put_name.Goals as goal

pub returns : goal.returns
unfolding octets
returns c =
    let a = c.args in
    (piece _ (piece _ (nothing (page a.at a.room.now)) c.put_visible-path_end.ensures) c.put_all.ensures).sum
