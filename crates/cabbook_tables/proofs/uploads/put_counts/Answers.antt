-- `cabbook_tables::uploads::put_counts` meets its contract. Assumes nothing.
use Rattle.octets.specs.Ascii.{octets}
use Rattle.program_output.specs.Pages.{page}
use Rattle.program_output.proofs.PageLaws.{nothing, piece}
use Rattle.cabbook_tables.proofs.uploads.put_counts.Goals as goal

pub returns : goal.returns
unfolding octets
returns c =
    let a = c.args in
    (piece _ (piece _ (piece _ (piece _ (nothing (page a.at a.room.now)) c.put_right-ticket_end.ensures) c.put_all-gap_end.ensures) c.put_right-octets_end.ensures) c.put_all.ensures).sum
