-- `label_marks::see` meets its contract. Assumes nothing.
use borrow.Author.Rules.{rules}
use Rattle.label_marks.specs.Seen.{mark, amiss}
use Rattle.label_marks.proofs.see.Goals as goal

pub returns : goal.returns
returns c = c.see_by.ensures (amiss c.args.x c.args.z) (mark c.args.x c.args.y) (λ b r h k. search rules)
