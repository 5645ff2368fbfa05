-- `cabbook_cells::code_at` meets its contract. Assumes nothing.
use borrow.Author.Tests.{lt-ltb, le-ltb, eq-eqb, ne_eqb}
use Rattle.cabbook_cells.proofs.CellLaws.{code_here}
use Rattle.cabbook_cells.proofs.code_at.Goals as goal

pub returns-then-n-lt2 : goal.returns-then-n-lt2
returns-then-n-lt2 c =
    let a = c.args in
    rw (code_here a.s.now a.i a.n, lt-ltb _ _ c.if-n-lt2.true) c.octet_at-first.ensures

pub returns-then-n-eq2 : goal.returns-then-n-eq2
returns-then-n-eq2 c =
    let a = c.args in
    rw (code_here a.s.now a.i a.n, le-ltb _ _ c.if-n-lt2.false, eq-eqb _ _ c.if-n-eq2.true) (rw (c.octet_at-first.ensures, c.octet_at-second.ensures) at c.join.ensures.0)

pub returns-then-n-eq3 : goal.returns-then-n-eq3
returns-then-n-eq3 c =
    let a = c.args in
    rw (code_here a.s.now a.i a.n, le-ltb _ _ c.if-n-lt2.false, ne_eqb _ _ c.if-n-eq2.false, eq-eqb _ _ c.if-n-eq3.true) (rw (c.join-then-n-eq3.ensures.0, c.octet_at-first.ensures, c.octet_at-second.ensures, c.octet_at-third.ensures) at c.join-then-n-eq3-2.ensures.0)

pub returns : goal.returns
returns c =
    let a = c.args in
    rw (code_here a.s.now a.i a.n, le-ltb _ _ c.if-n-lt2.false, ne_eqb _ _ c.if-n-eq2.false, ne_eqb _ _ c.if-n-eq3.false) (rw (c.join-3.ensures.0, c.join-2.ensures.0, c.octet_at-first.ensures, c.octet_at-second.ensures, c.octet_at-third.ensures, c.octet_at.ensures) at c.join-4.ensures.0)
