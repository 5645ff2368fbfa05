-- `text_marks::see` meets its contract. Assumes nothing.
use borrow.Author.Rules.{rules}
use Rattle.utf8_screening.specs.Plain.{odd}
use Rattle.text_marks.specs.Seen.{held}
use Rattle.text_marks.proofs.see.Goals as goal

pub returns : goal.returns
returns c = c.see_by.ensures odd (held c.args.x c.args.y) (λ b r h k. search rules)
