-- `console_report::put_taken` meets its contract. Assumes nothing.
use Rattle.console_report.specs.ReportAnswers.{taken_text}
use Rattle.console_report.proofs.put_taken.Goals as goal

pub returns-in-Ok : goal.returns-in-Ok
unfolding taken_text
returns-in-Ok c = rw c.in-Ok.is c.put_done.ensures

pub returns-in-Err : goal.returns-in-Err
unfolding taken_text
returns-in-Err c = rw c.in-Err.is c.put_refusal.ensures
