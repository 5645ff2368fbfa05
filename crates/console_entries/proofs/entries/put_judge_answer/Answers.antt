-- `console_entries::entries::put_judge_answer` meets its contract. Assumes nothing.
use mathlib.Core.Path.{ap, ◌∙◌}
use Rattle.program_output.specs.Pages.{page, added}
use Rattle.console_answers.specs.Texts.{line_end, verdict_text}
use Rattle.reader.specs.Outcome.{Verdict, verdict}
use Rattle.program_output.proofs.PageLaws.{then}
use Rattle.console_entries.specs.Entries.{judge_answer}
use mathlib.Core.List.{◌++◌}
use Rattle.console_entries.proofs.entries.put_judge_answer.Goals as goal

pub returns : goal.returns
unfolding judge_answer
returns c =
    let put-end = c.put_end in
    let put-verdict = c.put_verdict-end in
    let judge = c.judge_as in
    let a = c.args in
    let o = page a.at a.out.now in
    then (verdict_text (verdict judge.result)) line_end o put-verdict.ensures put-end.ensures
    ∙ ap (λ (v : Verdict). added (verdict_text v ++ line_end) o) judge.ensures
