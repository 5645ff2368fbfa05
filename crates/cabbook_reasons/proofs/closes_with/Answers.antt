-- `cabbook_reasons::closes_with` meets its contract. Assumes nothing.
use borrow.Author.Tests.{lt-ltb, le-ltb}
use Rattle.cabbook_reasons.specs.Reasons.{closing}
use Rattle.cabbook_reasons.proofs.closes_with.Goals as goal

pub returns-then-before-word : goal.returns-then-before-word
unfolding closing
returns-then-before-word c = rw (← c.part-before.ensures, lt-ltb _ _ c.if-before-word.true)

pub returns : goal.returns
unfolding closing
returns c = rw (← c.part-before.ensures, le-ltb _ _ c.if-before-word.false, ← c.part.ensures) c.same_name.ensures
