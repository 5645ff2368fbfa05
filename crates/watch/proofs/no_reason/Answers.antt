-- `watch::no_reason` meets its contract. Assumes nothing.
use Rattle.numbers.proofs.Reasons.{same_reason}
use Rattle.watch.specs.State.{no_reason}
use Rattle.watch.proofs.no_reason.Goals as goal

pub returns : goal.returns
returns c = same_reason c.of.result no_reason c.of.ensures
