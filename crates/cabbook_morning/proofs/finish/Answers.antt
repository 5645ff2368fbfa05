-- `cabbook_morning::finish` meets its contract. Assumes nothing.
use Rattle.cabbook_morning.proofs.finish.Goals as goal

pub returns : goal.returns
returns c = let f = rw c.count_verdict.ensures at c.release.ensures in (c.compare-same.result, (f.value, f.pool_after))
