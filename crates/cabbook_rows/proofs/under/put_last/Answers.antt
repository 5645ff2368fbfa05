-- `cabbook_rows::under::put_last` meets its contract. Assumes nothing.
use Rattle.octets.specs.Ascii.{octets}
use Rattle.program_output.specs.Pages.{page}
use Rattle.program_output.proofs.PageLaws.{nothing, piece}
use Rattle.program_visible.specs.Visible.{visible}
use Rattle.cabbook_rows.proofs.PartLaws.{added_same}
use Rattle.cabbook_rows.proofs.under.put_last.Goals as goal

pub returns : goal.returns
unfolding octets
returns c =
    let a = c.args in
    rw (← c.tail_start-from.ensures) (piece _ (piece _ (nothing (page a.at a.room.now)) c.put_unless-points_end.ensures) (added_same visible _ c.part.ensures c.put_visible.ensures)).sum
