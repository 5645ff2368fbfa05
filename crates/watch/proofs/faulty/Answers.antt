-- `watch::faulty` meets its contract. Assumes nothing.
use Rattle.watch.proofs.faulty.Goals as goal

pub returns : goal.returns
returns c = rw c.fresh-card.ensures
