-- `console_answers::put_answer` meets its contract. Assumes nothing.
use Rattle.console_answers.specs.Texts.{answer_text}
use Rattle.console_answers.proofs.put_answer.Goals as goal

pub returns-in-Ok : goal.returns-in-Ok
unfolding answer_text
returns-in-Ok c = rw c.in-Ok.is c.put_done.ensures

pub returns-in-Err : goal.returns-in-Err
unfolding answer_text
returns-in-Err c = rw c.in-Err.is c.put_refusal.ensures
