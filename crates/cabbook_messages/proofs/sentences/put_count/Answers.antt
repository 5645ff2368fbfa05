-- `cabbook_messages::sentences::put_count` meets its contract. Assumes nothing.
use Rattle.octets.specs.Ascii.{octets}
use Rattle.program_output.specs.Pages.{page}
use Rattle.program_output.proofs.PageLaws.{nothing, piece}
use Rattle.cabbook_messages.proofs.sentences.put_count.Goals as goal

pub returns : goal.returns
unfolding octets
returns c = (piece _ (piece _ (nothing (page c.args.at c.args.room.now)) c.put_amount-end.ensures) c.put_unless.ensures).sum
