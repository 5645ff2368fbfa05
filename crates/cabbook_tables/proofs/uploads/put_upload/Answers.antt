-- `cabbook_tables::uploads::put_upload` meets its contract. Assumes nothing.
use Rattle.octets.specs.Ascii.{octets}
use Rattle.program_output.specs.Pages.{page}
use Rattle.program_output.proofs.PageLaws.{nothing, piece}
use Rattle.cabbook_tables.proofs.uploads.put_upload.Goals as goal

pub returns : goal.returns
unfolding octets
returns c =
    let a = c.args in
    (piece _ (piece _ (piece _ (piece _ (nothing (page a.at a.room.now)) c.put_column-path_end.ensures) c.put_counts-counts_end.ensures) c.put_verdict-verdict_end.ensures) c.put_sameness.ensures).sum
