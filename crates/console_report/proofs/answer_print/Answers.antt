-- `console_report::answer_print` meets its contract. Assumes nothing.
use mathlib.Core.Path.{ap, ◌∙◌}
use Rattle.console_report.proofs.KeptLaws.{kept_says}
use Rattle.console_report.specs.ReportAnswers.{print_answer, kept_of}
use Rattle.console_report.specs.declared.Kept.{Kept}
use mathlib.Core.Path.{refl}
use Rattle.console_report.proofs.answer_print.Goals as goal

pub returns : goal.returns
returns c =
    let a = c.args in
    ap (λ (k : Kept). kept_of k c.put_print_answer-at.new.out) c.with_console.ensures
    ∙ kept_says a.k.console a.out.now (print_answer a.n a.k.report) c.with_output.ensures c.put_print_answer-at.ensures refl
