-- `cabbook_morning::depot::count_difference` meets its contract. Assumes nothing.
use Rattle.cabbook_morning.proofs.depot.count_difference.Goals as goal

pub returns-then-same : goal.returns-then-same
returns-then-same c = rw c.if-same.true

pub returns : goal.returns
returns c = rw (c.if-same.false, c.more.ensures)
