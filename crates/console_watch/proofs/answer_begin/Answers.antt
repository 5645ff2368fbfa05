-- `console_watch::answer_begin` meets its contract. Assumes nothing.
use mathlib.Core.Path.{ap, ◌∙◌}
use mathlib.Core.List.{List, ◌++◌}
use Prim.Native.Nat.{ℕ, ◌-◌}
use lib.ListN.{drop}
use borrow.Author.Tests.{lt-ltb, le-ltb}
use Rattle.watch.specs.State.{fresh_watch}
use Rattle.watch.specs.declared.Watch.{Watch}
use Rattle.console_report.specs.ReportAnswers.{KeptState, kept_of}
use Rattle.console_entries.proofs.RoomLaws.{fill_front}
use Rattle.console_watch.specs.WatchAnswers.{Watching, watching, with_buffer, adds, done_line, begin_answer}
use Rattle.console_watch.proofs.WatchLaws.{says_kept}
use Rattle.console_watch.proofs.answer_begin.Goals as goal

pub returns-then-n-buffer : goal.returns-then-n-buffer
unfolding begin_answer
returns-then-n-buffer c =
    let a = c.args in
    rw (lt-ltb _ _ c.if-n-buffer.true) (ap (λ (x : Watching). with_buffer x a.buffer.now) c.answer_bad.ensures)

pub returns : goal.returns
unfolding begin_answer
returns c =
    let a = c.args in
    let b = a.buffer.now in
    let q = c.fill.new.room in
    let k = adds (done_line 0) (kept_of a.s.kept a.out.now) in
    rw (le-ltb _ _ c.if-n-buffer.false)
    (ap (λ (x : KeptState). with_buffer (watching x c.new.result a.n) (q ++ drop (a.n - 0) b)) (says_kept a.s a.out.now (done_line 0) c.with_output-next.ensures (rw (← c.at.ensures) c.put_done_line-at.ensures))
    ∙ ap (λ (w : Watch). with_buffer (watching k w a.n) (q ++ drop (a.n - 0) b)) c.new.ensures
    ∙ ap (λ (l : List ℕ). with_buffer (watching k fresh_watch a.n) l) (fill_front b q a.n c.if-n-buffer.false c.fill.ensures))
