-- `cabbook_tables::uploads::put_summary` meets its contract. Assumes nothing.
use Rattle.octets.specs.Ascii.{octets}
use Rattle.program_output.specs.Pages.{page}
use Rattle.program_output.proofs.PageLaws.{nothing, piece}
use Rattle.cabbook_tables.specs.Uploads.{reclaimed_text, comparison, unread_text}
use Rattle.cabbook_tables.proofs.uploads.put_summary.Goals as goal

pub returns : goal.returns
unfolding octets
returns c =
    let a = c.args in
    (piece (unread_text a.unread) (piece (comparison a.differing) (piece (reclaimed_text a.reclaimed) (piece _ (nothing (page a.at a.room.now)) c.put_totals-totals_end.ensures) c.put_note-reclaimed_end.ensures) c.put_note-comparison_end.ensures) c.put_note.ensures).sum
