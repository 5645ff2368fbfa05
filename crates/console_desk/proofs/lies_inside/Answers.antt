-- `console_desk::lies_inside` meets its contract. Assumes nothing.
use Prim.Native.Nat.{◌-◌}
use mathlib.Core.Bool.{false≢true}
use native.Mathlib.Omega.{arith}
use lib.ListN.{length}
use borrow.Author.Tests.{lt-ltb, le-ltb, leb-true}
use Rattle.console_desk.specs.DeskAnswers.{lies}
use Rattle.console_desk.proofs.lies_inside.Goals as goal

pub returns-then-from-lent : goal.returns-then-from-lent
unfolding lies
returns-then-from-lent c = record { value = rw (lt-ltb _ _ c.if-from-lent.true); count_in_bounds = λ e. absurd (false≢true e) }

pub returns : goal.returns
unfolding lies
returns c = record { value = rw (le-ltb _ _ c.if-from-lent.false); count_in_bounds = λ e. omega (arith, leb-true c.args.count (length c.args.lent.now - c.args.from) e) }
