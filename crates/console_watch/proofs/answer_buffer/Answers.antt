-- `console_watch::answer_buffer` meets its contract. Assumes nothing.
use mathlib.Core.Path.{ap, ◌∙◌}
use mathlib.Core.List.{List}
use Prim.Native.Nat.{ℕ}
use Rattle.console_desk.specs.DeskAnswers.{State, state_of, part_of}
use Rattle.console_report.specs.ReportAnswers.{kept, kept_of}
use Rattle.console_report.specs.declared.Kept.{Kept}
use Rattle.console_watch.specs.WatchAnswers.{watching, watching_of, buffer_answer}
use Rattle.console_watch.specs.declared.Session.{Session}
use Rattle.console_watch.proofs.WatchLaws.{lent_part}
use Rattle.console_watch.proofs.answer_buffer.Goals as goal

pub returns : goal.returns
unfolding buffer_answer
returns c =
    let a = c.args in
    let k = a.s.kept in
    let after = c.answer_part.new.out in
    ap (λ (z : Session). watching_of z after) c.with_kept.ensures
    ∙ ap (λ (z : Kept). watching (kept_of z after) a.s.watch a.s.size) c.with_console.ensures
    ∙ ap (λ (t : State). watching (kept t k.report) a.s.watch a.s.size)
    (c.answer_part.ensures ∙ ap (λ (l : List ℕ). part_of a.from a.count (state_of k.console a.out.now) l) (lent_part a.s.size c.lent_length-n.result a.buffer.now c.lent_length-n.ensures.value))
