-- `cabbook_messages::sentences::put_refusal` meets its contract. Assumes nothing.
use Rattle.octets.specs.Ascii.{octets}
use Rattle.program_output.specs.Pages.{page}
use Rattle.program_output.proofs.PageLaws.{nothing, piece}
use Rattle.cabbook_messages.proofs.sentences.put_refusal.Goals as goal

pub returns : goal.returns
unfolding octets
returns c =
    let a = c.args in
    rw (← c.number.ensures) (piece _ (piece _ (piece _ (nothing (page a.at a.room.now)) c.put_all-start.ensures) c.put_amount-number_end.ensures) c.put_number.ensures).sum
