-- `console_desk::is_ticked` meets its contract. Assumes nothing.
use mathlib.Core.Bool.{false≢true}
use borrow.Author.Tests.{lt-ltb, le-ltb}
use Rattle.console_desk.specs.DeskAnswers.{ticked}
use Rattle.console_desk.proofs.is_ticked.Goals as goal

pub returns-then-tick-gt-LARGEST : goal.returns-then-tick-gt-LARGEST
unfolding ticked
returns-then-tick-gt-LARGEST c = record { value = rw (lt-ltb _ _ c.if-tick-gt-LARGEST.true); n_le_largest = λ e. absurd (false≢true e) }

pub returns : goal.returns
unfolding ticked
returns c =
    let f = c.is_callable.ensures in
    record { value = rw (le-ltb _ _ c.if-tick-gt-LARGEST.false) f.value; n_le_largest = λ e. ((f.n_le_largest e).0, c.if-tick-gt-LARGEST.false, (f.n_le_largest e).1) }
