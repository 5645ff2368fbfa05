-- `cabbook_rows::rows::put_refused` meets its contract. Assumes nothing.
use Rattle.octets.specs.Ascii.{octets}
use Rattle.program_output.specs.Pages.{page}
use Rattle.program_output.proofs.PageLaws.{nothing, piece}
use Rattle.cabbook_rows.proofs.rows.put_refused.Goals as goal

pub returns : goal.returns
unfolding octets
returns c =
    let a = c.args in
    (piece _ (piece _ (piece _ (piece _ (piece _ (nothing (page a.at a.room.now)) c.put_where-where_end.ensures) c.put_all-start.ensures) (rw c.number.ensures at c.put_amount-number_end.ensures)) c.put_why-why_end.ensures) c.put_all.ensures).sum
