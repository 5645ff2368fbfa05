-- `octets::slices::numbers` meets its contract. Assumes nothing.
use native.Mathlib.Omega.{arith}
use lib.ListN.{length}
use borrow.Author.Tests.{lt-ltb, le-ltb}
use Rattle.octets.proofs.slices.numbers.Goals as goal

pub returns-then-n-s : goal.returns-then-n-s
returns-then-n-s c =
    let a = c.args in
    rw (lt-ltb (length a.s.now) a.n c.if-n-s.true)

pub returns : goal.returns
returns c =
    let a = c.args in
    rw (le-ltb (length a.s.now) a.n c.if-n-s.false, le-ltb a.n 0 (omega arith))
