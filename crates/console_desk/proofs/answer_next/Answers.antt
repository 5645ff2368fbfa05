-- `console_desk::answer_next` meets its contract. Assumes nothing.
use mathlib.Core.Path.{ap}
use borrow.Author.Tests.{lt-ltb, le-ltb}
use Rattle.program_output.specs.Pages.{page}
use Rattle.console_answers.specs.Texts.{line_end, done_text}
use Rattle.program_output.proofs.PageLaws.{then}
use Rattle.console_desk.specs.DeskAnswers.{state, with_next, next_answer}
use Rattle.console_desk.proofs.answer_next.Goals as goal

pub returns-then-ticket-gt-LARGEST : goal.returns-then-ticket-gt-LARGEST
unfolding next_answer
returns-then-ticket-gt-LARGEST c = rw (lt-ltb _ _ c.if-ticket-gt-LARGEST.true) c.answer_bad.ensures

pub returns : goal.returns
unfolding next_answer
returns c =
    let put-end = c.put_end in
    let put_done = c.put_done-end in
    let if1 = c.if-ticket-gt-LARGEST in
    let a = c.args in
    rw (le-ltb _ _ if1.false)
    (ap (state (with_next a.c.desk a.ticket) a.c.size) (then (done_text a.ticket) line_end (page a.c.at a.out.now) put_done.ensures put-end.ensures))
