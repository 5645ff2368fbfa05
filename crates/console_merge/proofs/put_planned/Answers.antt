-- `console_merge::put_planned` meets its contract. Assumes nothing.
use mathlib.Core.Path.{ap, ◌∙◌}
use mathlib.Core.List.{List, ◌++◌}
use Prim.Native.Nat.{ℕ}
use Rattle.program_output.specs.Pages.{page, added}
use Rattle.program_output.proofs.PageLaws.{then}
use Rattle.merge.specs.Paired.{paired}
use Rattle.console_answers.specs.Texts.{room_end}
use Rattle.console_merge.specs.MergeAnswers.{paired_text, written_word}
use Rattle.console_merge.proofs.MergeLaws.{planned_text_lem}
use Rattle.console_merge.proofs.put_planned.Goals as goal

pub returns : goal.returns
returns c =
    let a = c.args in
    let o = page a.at a.out.now in
    let word = written_word (paired a.p) c.numbers.result.now in
    let end = room_end c.are_kept.result in
    then (paired_text (paired a.p)) (word ++ end) o c.put_paired-word.ensures (then word end _ c.put_written-end.ensures c.put_room_end.ensures)
    ∙ ap (λ (t : List ℕ). added t o) (planned_text_lem (paired a.p) a.room.now c.numbers.result.now c.numbers_in-n.result c.are_kept.result c.numbers_in-n.ensures c.numbers.ensures c.are_kept.ensures)
