-- `utf8::is_tail` meets its contract. Assumes nothing.
use Rattle.utf8.specs.Characters.{tail}
use Rattle.utf8.proofs.is_tail.Goals as goal

pub returns : goal.returns
unfolding tail
returns c = c.in_range.ensures
