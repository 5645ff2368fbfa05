-- `cabbook_tables::uploads::put_totals` meets its contract. Assumes nothing.
use Rattle.octets.specs.Ascii.{octets}
use Rattle.program_output.specs.Pages.{page}
use Rattle.program_output.proofs.PageLaws.{nothing, piece}
use Rattle.cabbook_tables.proofs.uploads.put_totals.Goals as goal

pub returns : goal.returns
unfolding octets
returns c =
    let a = c.args in
    rw (← c.sum.ensures) (piece _ (piece _ (piece _ (piece _ (nothing (page a.at a.room.now)) c.put_count-count_end.ensures) c.put_all-start.ensures) c.put_amount-accepted_end.ensures) c.put_amount.ensures).sum
