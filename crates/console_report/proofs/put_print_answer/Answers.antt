-- `console_report::put_print_answer` meets its contract. Assumes nothing.
use borrow.Author.Tests.{lt-ltb, le-ltb}
use Rattle.console_report.specs.ReportAnswers.{print_answer}
use Rattle.console_report.proofs.put_print_answer.Goals as goal

pub returns-then-n-gt-ROOM : goal.returns-then-n-gt-ROOM
unfolding print_answer
returns-then-n-gt-ROOM c = rw (lt-ltb _ _ c.if-n-gt-ROOM.true) c.put_bad.ensures

pub returns : goal.returns
unfolding print_answer
returns c = rw (le-ltb _ _ c.if-n-gt-ROOM.false) c.put_print_fresh.ensures
