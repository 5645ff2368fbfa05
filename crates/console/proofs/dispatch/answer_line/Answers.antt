-- `console::dispatch::answer_line` meets its contract. Assumes nothing.
use mathlib.Core.Path.{ap}
use borrow.Author.Tests.{lt-ltb, le-ltb}
use Rattle.console_watch.specs.WatchAnswers.{Watching}
use Rattle.console.specs.Dispatch.{everything, AnswerLine}
use Rattle.console.proofs.dispatch.answer_line.Goals as goal

pub returns-then-line-gt-LINE : goal.returns-then-line-gt-LINE
unfolding AnswerLine
returns-then-line-gt-LINE c =
    let a = c.args in
    rw (lt-ltb _ _ c.if-line-gt-LINE.true) (ap (λ (t : Watching). everything t a.buffer.now a.pool.now) c.answer_bad.ensures)

pub returns : goal.returns
unfolding AnswerLine
returns c = rw (le-ltb _ _ c.if-line-gt-LINE.false) c.answer_in.ensures
