-- `cabbook_morning::depot::count_unread` meets its contract. Assumes nothing.
use Rattle.cabbook_morning.proofs.depot.count_unread.Goals as goal

pub returns : goal.returns
returns c = rw c.more.ensures
