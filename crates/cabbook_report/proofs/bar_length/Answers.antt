-- `cabbook_report::bar_length` meets its contract. Assumes nothing.
use native.Mathlib.Omega.{arith}
use borrow.Author.Tests.{eq-eqb, ne_eqb, le-leb, lt-leb}
use Rattle.cabbook_report.specs.Bars.{bar_length}
use Rattle.cabbook_report.proofs.BarLaws.{bar_low}
use Rattle.cabbook_report.proofs.bar_length.Goals as goal

pub returns-then-n-eq0 : goal.returns-then-n-eq0
unfolding bar_length
returns-then-n-eq0 c = (rw (eq-eqb _ _ c.if-n-eq0.true), omega arith)

pub returns-then-whole-n : goal.returns-then-whole-n
unfolding bar_length
returns-then-whole-n c = (rw (ne_eqb _ _ c.if-n-eq0.false, le-leb _ _ c.if-whole-n.true), omega arith)

pub returns-then-k-eq0 : goal.returns-then-k-eq0
unfolding bar_length
returns-then-k-eq0 c = (rw (ne_eqb _ _ c.if-n-eq0.false, lt-leb _ _ c.if-whole-n.false, eq-eqb _ _ c.if-k-eq0.true), omega arith)

pub returns : goal.returns
unfolding bar_length
returns c = (rw (ne_eqb _ _ c.if-n-eq0.false, lt-leb _ _ c.if-whole-n.false, ne_eqb _ _ c.if-k-eq0.false), bar_low _ _ c.if-whole-n.false)
