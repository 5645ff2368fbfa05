-- `console_watch::put_arrived` meets its contract. Assumes nothing.
use Rattle.program_output.proofs.PageLaws.{then}
use Rattle.console_watch.specs.WatchAnswers.{arrived_text}
use Rattle.console_watch.proofs.put_arrived.Goals as goal

pub returns-in-Next : goal.returns-in-Next
unfolding arrived_text
returns-in-Next c = rw c.in-Next.is c.put_done_line.ensures

pub returns-in-Refused : goal.returns-in-Refused
unfolding arrived_text
returns-in-Refused c = rw c.in-Refused.is (then _ _ _ c.put_no-end.ensures c.put_room_end.ensures)
