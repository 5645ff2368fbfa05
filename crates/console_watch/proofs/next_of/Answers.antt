-- `console_watch::next_of` meets its contract. Assumes nothing.
use Rattle.console_watch.proofs.next_of.Goals as goal

pub returns-in-Next : goal.returns-in-Next
returns-in-Next c = rw c.in-Next.is

pub returns-in-Refused : goal.returns-in-Refused
returns-in-Refused c = rw c.in-Refused.is
