-- `console_report::answer_take` meets its contract. Assumes nothing.
use mathlib.Core.Path.{ap, ◌∙◌}
use Rattle.program_output.specs.Pages.{page}
use Rattle.program_output.proofs.PageLaws.{then}
use Rattle.console_answers.specs.Texts.{line_end}
use Rattle.console_report.proofs.KeptLaws.{kept_says}
use mathlib.Core.Path.{refl}
use mathlib.Core.List.{◌++◌}
use Rattle.report.specs.Answer.{Taken, answer}
use Rattle.console_desk.specs.DeskAnswers.{state_of}
use Rattle.console_report.specs.ReportAnswers.{taken_text, after_take, take_answer}
use Rattle.console_report.proofs.answer_take.Goals as goal

pub returns : goal.returns
unfolding take_answer
returns c =
    let a = c.args in
    let t = c.take-t in
    let text = taken_text (answer t.result.answer) in
    kept_says a.k.console a.out.now (text ++ line_end) c.with_output.ensures
    (then text line_end (page a.k.console.at a.out.now) c.put_taken-end.ensures c.put_end-at.ensures) refl
    ∙ ap (λ (x : Taken). after_take x (state_of a.k.console a.out.now)) t.ensures
