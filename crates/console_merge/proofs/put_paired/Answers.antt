-- `console_merge::put_paired` meets its contract. Assumes nothing.
use Rattle.console_merge.specs.MergeAnswers.{paired_text}
use Rattle.console_merge.proofs.put_paired.Goals as goal

pub returns-in-Ok : goal.returns-in-Ok
unfolding paired_text
returns-in-Ok c = rw c.in-Ok.is c.put_done.ensures

pub returns-in-Err : goal.returns-in-Err
unfolding paired_text
returns-in-Err c = rw c.in-Err.is c.put_refusal.ensures
