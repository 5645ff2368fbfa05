-- `console_merge::put_written` meets its contract. Assumes nothing.
use Rattle.program_output.specs.Pages.{added}
use Rattle.console_merge.specs.MergeAnswers.{written_word}
use Rattle.console_merge.proofs.put_written.Goals as goal

pub returns-in-Ok : goal.returns-in-Ok
unfolding written_word
returns-in-Ok c = rw c.in-Ok.is c.put_numbers.ensures

pub returns-in-Err : goal.returns-in-Err
unfolding written_word added
returns-in-Err c = rw c.in-Err.is
