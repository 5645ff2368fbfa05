-- `console_answers::put_written` meets its contract. Assumes nothing.
use mathlib.Core.Path.{sym}
use Rattle.console_answers.specs.Texts.{written_text}
use Rattle.program_output.proofs.PageLaws.{then}
use Rattle.console_answers.proofs.put_written.Goals as goal

pub returns-in-Ok : goal.returns-in-Ok
unfolding written_text
returns-in-Ok c =
    let put-spaced-octets = c.put_spaced_octets in
    let part = c.part in
    let put_done = c.put_done-end in
    rw (c.in-Ok.is, sym part.ensures) (then _ _ _ put_done.ensures put-spaced-octets.ensures)

pub returns-in-Err : goal.returns-in-Err
unfolding written_text
returns-in-Err c = rw c.in-Err.is c.put_refusal.ensures
