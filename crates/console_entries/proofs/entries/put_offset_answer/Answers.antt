-- `console_entries::entries::put_offset_answer` meets its contract. Assumes nothing.
use mathlib.Core.Path.{ap, ◌∙◌}
use Rattle.program_output.specs.Pages.{page, added}
use Rattle.console_answers.specs.Texts.{line_end, offset_text}
use Rattle.value_offsets.specs.declared.Offset.{Offset}
use Rattle.program_output.proofs.PageLaws.{then}
use Rattle.console_entries.specs.Entries.{offset_answer}
use mathlib.Core.List.{◌++◌}
use Rattle.console_entries.proofs.entries.put_offset_answer.Goals as goal

pub returns : goal.returns
unfolding offset_answer
returns c =
    let put-end = c.put_end in
    let put-offset = c.put_offset-next in
    let minutes = c.minutes in
    let a = c.args in
    let o = page a.at a.out.now in
    then (offset_text minutes.result) line_end o put-offset.ensures put-end.ensures
    ∙ ap (λ (v : Offset). added (offset_text v ++ line_end) o) minutes.ensures.value
