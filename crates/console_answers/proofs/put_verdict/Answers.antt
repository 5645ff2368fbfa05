-- `console_answers::put_verdict` meets its contract. Assumes nothing.
use Rattle.console_answers.specs.Texts.{verdict_text}
use Rattle.program_output.proofs.PageLaws.{then}
use Rattle.console_answers.proofs.put_verdict.Goals as goal

pub returns-in-Ok : goal.returns-in-Ok
unfolding verdict_text
returns-in-Ok c =
    let put-after = c.put_after in
    let put_done = c.put_done-end in
    rw c.in-Ok.is (then _ _ _ put_done.ensures put-after.ensures)

pub returns-in-Err : goal.returns-in-Err
unfolding verdict_text
returns-in-Err c = rw c.in-Err.is c.put_refusal.ensures
