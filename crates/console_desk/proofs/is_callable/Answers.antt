-- `console_desk::is_callable` meets its contract. Assumes nothing.
use mathlib.Core.Bool.{false≢true}
use native.Mathlib.Omega.{arith}
use lib.ListN.{length}
use borrow.Author.Tests.{lt-ltb, le-ltb, leb-true}
use Rattle.console_desk.specs.DeskAnswers.{callable}
use Rattle.console_desk.proofs.is_callable.Goals as goal

pub returns-then-n-gt-LARGEST : goal.returns-then-n-gt-LARGEST
unfolding callable
returns-then-n-gt-LARGEST c = record { value = rw (lt-ltb _ _ c.if-n-gt-LARGEST.true); n_le_largest = λ e. absurd (false≢true e) }

pub returns : goal.returns
unfolding callable
returns c = record { value = rw (le-ltb _ _ c.if-n-gt-LARGEST.false); n_le_largest = λ e. (omega arith, leb-true c.args.size (length c.args.pool.now) e) }
