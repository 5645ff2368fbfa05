-- `cabbook_messages::sentences::put_amount` meets its contract. Assumes nothing.
use Rattle.program_output.specs.Pages.{page}
use Rattle.program_output.proofs.PageLaws.{nothing, piece}
use Rattle.cabbook_messages.proofs.sentences.put_amount.Goals as goal

pub returns : goal.returns
returns c = (piece _ (piece _ (nothing (page c.args.at c.args.room.now)) c.put_number-number_end.ensures) c.put_all.ensures).sum
