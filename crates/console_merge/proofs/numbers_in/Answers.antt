-- `console_merge::numbers_in` meets its contract. Assumes nothing.
use native.Mathlib.Omega.{arith}
use Rattle.console_merge.specs.MergeAnswers.{numbers_in}
use Rattle.console_merge.proofs.numbers_in.Goals as goal

pub returns-in_default : goal.returns-in_default
unfolding numbers_in
returns-in_default c = rw c.in_default.is

pub returns-then-n-most : goal.returns-then-n-most
unfolding numbers_in
returns-then-n-most c = rw c.in-Ok.is (omega arith)

pub returns : goal.returns
unfolding numbers_in
returns c = rw c.in-Ok.is (omega arith)
