-- `cabbook_morning::depot::count_verdict` meets its contract. Assumes nothing.
use Rattle.cabbook_morning.proofs.depot.count_verdict.Goals as goal

pub returns-in-Ok : goal.returns-in-Ok
returns-in-Ok c = rw (c.in-Ok.is, c.more.ensures, c.count_difference-next.ensures)

pub returns-in-Err : goal.returns-in-Err
returns-in-Err c = rw (c.in-Err.is, c.count_reclaimed.ensures, c.more-in-Err.ensures, c.count_difference-next.ensures)
