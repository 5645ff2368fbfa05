-- `console_report::answer_fresh` meets its contract. Assumes nothing.
use Rattle.program_output.specs.Pages.{page}
use Rattle.program_output.proofs.PageLaws.{then}
use Rattle.console_answers.specs.Texts.{line_end, done_text}
use Rattle.console_report.proofs.KeptLaws.{kept_says}
use mathlib.Core.List.{◌++◌}
use Rattle.console_report.proofs.answer_fresh.Goals as goal

pub returns : goal.returns
returns c =
    let a = c.args in
    kept_says a.k.console a.out.now (done_text 0 ++ line_end) c.with_output.ensures
    (then (done_text 0) line_end (page a.k.console.at a.out.now) c.put_done-end.ensures c.put_end-at.ensures) c.new.ensures
