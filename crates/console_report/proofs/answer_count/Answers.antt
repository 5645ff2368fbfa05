-- `console_report::answer_count` meets its contract. Assumes nothing.
use mathlib.Core.Path.{ap, ◌∙◌}
use Rattle.program_output.specs.Pages.{page}
use Rattle.program_output.proofs.PageLaws.{then}
use Rattle.console_answers.specs.Texts.{line_end, done_text}
use Rattle.console_report.proofs.KeptLaws.{kept_says, kept_with}
use mathlib.Core.List.{◌++◌}
use mathlib.Core.Path.{refl}
use borrow.Author.Tests.{lt-ltb, le-ltb, le-leb, lt-leb}
use Rattle.console_report.specs.ReportAnswers.{kept_of, count_answer}
use Rattle.console_report.specs.declared.Kept.{Kept}
use Rattle.console_report.proofs.answer_count.Goals as goal

pub returns-then-place-ge-ALL : goal.returns-then-place-ge-ALL
unfolding count_answer
returns-then-place-ge-ALL c =
    rw (← c.place_of-place.ensures, le-leb _ _ c.if-place-ge-ALL.true)
    (ap (λ (k : Kept). kept_of k c.answer_bad.new.out) c.with_console.ensures ∙ kept_with _ c.answer_bad.ensures)

pub returns-then-number-gt-LARGEST : goal.returns-then-number-gt-LARGEST
unfolding count_answer
returns-then-number-gt-LARGEST c =
    rw (← c.place_of-place.ensures, lt-leb _ _ c.if-place-ge-ALL.false, lt-ltb _ _ c.if-number-gt-LARGEST.true)
    (ap (λ (k : Kept). kept_of k c.answer_bad-then-number-gt-LARGEST.new.out) c.with_console-then-number-gt-LARGEST.ensures ∙ kept_with _ c.answer_bad-then-number-gt-LARGEST.ensures)

pub returns : goal.returns
unfolding count_answer
returns c =
    let a = c.args in
    rw (← c.place_of-place.ensures, lt-leb _ _ c.if-place-ge-ALL.false, le-ltb _ _ c.if-number-gt-LARGEST.false)
    (kept_says a.k.console a.out.now (done_text a.number ++ line_end) c.with_output.ensures
    (then (done_text a.number) line_end (page a.k.console.at a.out.now) c.put_done-end.ensures c.put_end-at.ensures) refl)
