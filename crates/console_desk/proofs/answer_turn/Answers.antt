-- `console_desk::answer_turn` meets its contract. Assumes nothing.
use mathlib.Core.Path.{ap}
use Rattle.program_output.specs.Pages.{page}
use Rattle.console_answers.specs.Texts.{line_end, answer_text}
use Rattle.desk.specs.Answer.{answer}
use Rattle.program_output.proofs.PageLaws.{then}
use Rattle.console_desk.specs.DeskAnswers.{state}
use Rattle.console_desk.proofs.answer_turn.Goals as goal

pub returns : goal.returns
returns c =
    let put-end = c.put_end in
    let put-answer = c.put_answer-end in
    let a = c.args in
    ap (state a.t.desk a.size) (then (answer_text (answer a.t.answer)) line_end (page a.at a.out.now) put-answer.ensures put-end.ensures)
