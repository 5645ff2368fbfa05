-- `cabbook_report::whole_of` meets its contract. Assumes nothing.
use native.Mathlib.Omega.{arith}
use borrow.Author.Tests.{eq-eqb, ne_eqb, lt-ltb, le-ltb}
use Rattle.cabbook_report.specs.Bars.{whole_of}
use Rattle.cabbook_report.proofs.whole_of.Goals as goal

pub returns-then-place-eq-CARDS : goal.returns-then-place-eq-CARDS
unfolding whole_of
returns-then-place-eq-CARDS c = (rw (eq-eqb _ _ c.if-place-eq-CARDS.true), c.requires)

pub returns-then-place-eq-OCTETS : goal.returns-then-place-eq-OCTETS
unfolding whole_of
returns-then-place-eq-OCTETS c = (rw (ne_eqb _ _ c.if-place-eq-CARDS.false, eq-eqb _ _ c.if-place-eq-OCTETS.true), c.requires)

pub returns-then-place-eq-LINES : goal.returns-then-place-eq-LINES
unfolding whole_of
returns-then-place-eq-LINES c = (rw (ne_eqb _ _ c.if-place-eq-CARDS.false, ne_eqb _ _ c.if-place-eq-OCTETS.false, eq-eqb _ _ c.if-place-eq-LINES.true), c.requires)

pub returns-then-place-lt-PROPERTIES : goal.returns-then-place-lt-PROPERTIES
unfolding whole_of
returns-then-place-lt-PROPERTIES c = (rw (ne_eqb _ _ c.if-place-eq-CARDS.false, ne_eqb _ _ c.if-place-eq-OCTETS.false, ne_eqb _ _ c.if-place-eq-LINES.false, lt-ltb _ _ c.if-place-lt-PROPERTIES.true), omega arith)

pub returns : goal.returns
unfolding whole_of
returns c = (rw (ne_eqb _ _ c.if-place-eq-CARDS.false, ne_eqb _ _ c.if-place-eq-OCTETS.false, ne_eqb _ _ c.if-place-eq-LINES.false, le-ltb _ _ c.if-place-lt-PROPERTIES.false), omega arith)
