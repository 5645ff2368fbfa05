-- `cabbook_tables::fields::put_titles` meets its contract. Assumes nothing.
use Rattle.octets.specs.Ascii.{octets}
use Rattle.program_output.specs.Pages.{page}
use Rattle.program_output.proofs.PageLaws.{nothing, piece}
use Rattle.cabbook_tables.proofs.fields.put_titles.Goals as goal

pub returns : goal.returns
unfolding octets
returns c =
    let a = c.args in
    (piece _ (piece _ (piece _ (piece _ (nothing (page a.at a.room.now)) c.put_column-property_end.ensures) c.put_column-group_end.ensures) c.put_column-end.ensures) c.put_all.ensures).sum
