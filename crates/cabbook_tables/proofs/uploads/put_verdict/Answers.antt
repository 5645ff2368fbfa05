-- `cabbook_tables::uploads::put_verdict` meets its contract. Assumes nothing.
use Rattle.octets.specs.Ascii.{octets}
use Rattle.program_output.specs.Pages.{page}
use Rattle.program_output.proofs.PageLaws.{nothing, piece}
use Rattle.cabbook_tables.proofs.uploads.put_verdict.Goals as goal

pub returns-in-Ok : goal.returns-in-Ok
unfolding octets
returns-in-Ok c =
    let a = c.args in
    rw c.in-Ok.is (piece _ (piece _ (nothing (page a.at a.room.now)) c.put_right-cards_end.ensures) c.put_all.ensures).sum

pub returns-in-Err : goal.returns-in-Err
unfolding octets
returns-in-Err c =
    let a = c.args in
    rw c.in-Err.is (piece _ (piece _ (piece _ (piece _ (nothing (page a.at a.room.now)) c.put_all-start.ensures) c.put_refusal-refusal_end.ensures) c.put_all-colon_end.ensures) c.put_words.ensures).sum
