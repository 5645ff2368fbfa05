-- `cabbook_tables::uploads::put_note` meets its contract. Assumes nothing.
use Rattle.octets.specs.Ascii.{octets}
use Rattle.program_output.specs.Pages.{page}
use Rattle.program_output.proofs.PageLaws.{nothing, piece}
use borrow.Author.Tests.{eq-eqb, ne_eqb}
use Rattle.cabbook_tables.proofs.uploads.put_note.Goals as goal

pub returns-then-n-eq0 : goal.returns-then-n-eq0
returns-then-n-eq0 c =
    let a = c.args in
    rw (eq-eqb a.n 0 c.if-n-eq0.true) c.put_all.ensures

pub returns : goal.returns
unfolding octets
returns c =
    let a = c.args in
    rw (ne_eqb a.n 0 c.if-n-eq0.false) (piece _ (piece _ (piece _ (nothing (page a.at a.room.now)) c.put_all-start.ensures) c.put_count-count_end.ensures) c.put_all-2.ensures).sum
