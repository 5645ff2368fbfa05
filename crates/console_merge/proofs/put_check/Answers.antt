-- `console_merge::put_check` meets its contract. Assumes nothing.
use mathlib.Core.Path.{ap, ◌∙◌}
use Rattle.program_output.specs.Pages.{page, added}
use Rattle.program_output.proofs.PageLaws.{then}
use Rattle.console_answers.specs.Texts.{line_end}
use Rattle.merge.specs.Paired.{Paired, paired}
use Rattle.console_merge.specs.MergeAnswers.{paired_text, checked_text}
use Rattle.console_merge.proofs.MergeLaws.{check_with_lem}
use Rattle.console_merge.proofs.put_check.Goals as goal

pub returns : goal.returns
returns c =
    let a = c.args in
    let o = page a.at a.out.now in
    then (paired_text (paired c.lend_check-p.result)) line_end o c.put_paired-end.ensures c.put_end.ensures
    ∙ ap (λ (x : Paired). added (checked_text x) o)
    (c.lend_check-p.ensures
    ∙ check_with_lem a.s.now c.part_of.result.now c.part_of-2.result.now c.part_of-left.result.now c.part_of-right.result.now c.entries_of.result c.entries_of-2.result c.part_of.ensures.result_value c.part_of-2.ensures.result_value c.part_of-left.ensures.result_value c.part_of-right.ensures.result_value c.entries_of.ensures c.entries_of-2.ensures a.numbers.now)
