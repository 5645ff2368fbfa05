-- `watch_arrivals::lone_within` meets its contract. Assumes nothing.
use native.Mathlib.Omega.{arith}
use Prim.Native.Nat.{◌-◌}
use borrow.Author.Tests.{lt-ltb, le-ltb}
use Rattle.watch_arrivals.proofs.ArrivalLaws.{first_low}
use Rattle.watch_arrivals.proofs.lone_within.Goals as goal

pub overflow_add-lone : goal.overflow_add-lone
overflow_add-lone c =
    let a = c.args in
    omega (arith, c.first_lone.ensures, first_low a.chunk.now a.from a.to c.requires.1, c.requires)

pub returns-then-lone-to : goal.returns-then-lone-to
returns-then-lone-to c =
    let a = c.args in
    let e = c.first_lone.ensures in
    rw (← e, lt-ltb c.first_lone.result (a.to - a.from) (omega (arith, c.if-lone-to.true)))

pub returns : goal.returns
returns c =
    let a = c.args in
    let e = c.first_lone.ensures in
    rw (← e, le-ltb c.first_lone.result (a.to - a.from) (omega (arith, c.if-lone-to.false)))
