-- `octets::slices::part` meets its contract. Assumes nothing.
use lib.ListN.{length}
use borrow.Author.Tests.{lt-ltb, le-ltb}
use Rattle.octets.proofs.slices.part.Goals as goal

pub returns-then-e-s : goal.returns-then-e-s
returns-then-e-s c =
    let a = c.args in
    rw (lt-ltb (length a.s.now) a.e c.if-e-s.true)

pub returns-then-a-e : goal.returns-then-a-e
returns-then-a-e c =
    let a = c.args in
    rw (le-ltb (length a.s.now) a.e c.if-e-s.false, lt-ltb a.e a.a c.if-a-e.true)

pub returns : goal.returns
returns c =
    let a = c.args in
    rw (le-ltb (length a.s.now) a.e c.if-e-s.false, le-ltb a.e a.a c.if-a-e.false)
