-- `cabbook_positions::part_at` meets its contract. Assumes nothing.
use native.Mathlib.Omega.{arith}
use borrow.Author.Tests.{eq-eqb, ne_eqb}
use Rattle.cabbook_positions.proofs.part_at.Goals as goal

pub returns-then-waits : goal.returns-then-waits
returns-then-waits c = (rw c.if-waits.true, omega arith)

pub returns-then-octet-eq59 : goal.returns-then-octet-eq59
returns-then-octet-eq59 c = (rw (c.if-waits.false, eq-eqb _ _ c.if-octet-eq59.true), omega arith)

pub returns : goal.returns
returns c = (rw (c.if-waits.false, ne_eqb _ _ c.if-octet-eq59.false), omega arith)
