-- `version3::sheet::write_card` meets its contract. Assumes nothing.
use mathlib.Core.Path.{ap, ◌∙◌}
use Rattle.octets.specs.Room.{fill_bounded}
use Rattle.version3.specs.Card.{card_text}
use Rattle.version3.proofs.sheet.write_card.Goals as goal

pub returns-in-Some : goal.returns-in-Some
returns-in-Some c = rw c.in-Some.is at c.write_by_length.ensures

pub returns-in-None : goal.returns-in-None
returns-in-None c = c.write_all.ensures ∙ ap (fill_bounded (card_text c.args.way c.args.s.now)) (rw c.in-None.is at c.write_by_length.ensures)
