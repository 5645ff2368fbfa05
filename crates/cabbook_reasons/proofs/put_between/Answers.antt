-- `cabbook_reasons::put_between` meets its contract. Assumes nothing.
use borrow.Author.Tests.{eq-eqb, ne_eqb}
use Rattle.octets.specs.Ascii.{octets}
use Rattle.cabbook_reasons.specs.Reasons.{between_words}
use Rattle.cabbook_reasons.proofs.put_between.Goals as goal

pub returns-then-place-eq0 : goal.returns-then-place-eq0
unfolding between_words octets
returns-then-place-eq0 c = rw (eq-eqb _ _ c.if-place-eq0.true) c.put_all.ensures

pub returns-then-closes_with : goal.returns-then-closes_with
unfolding between_words octets
returns-then-closes_with c = rw (ne_eqb _ _ c.if-place-eq0.false, ← c.closes_with.ensures, c.if-closes_with.true) c.put_all-then-closes_with.ensures

pub returns-then-closes_with-2 : goal.returns-then-closes_with-2
unfolding between_words octets
returns-then-closes_with-2 c = rw (ne_eqb _ _ c.if-place-eq0.false, ← c.closes_with.ensures, c.if-closes_with.false, ← c.closes_with-2.ensures, c.if-closes_with-2.true) c.put_version.ensures

pub returns : goal.returns
unfolding between_words octets
returns c = rw (ne_eqb _ _ c.if-place-eq0.false, ← c.closes_with.ensures, c.if-closes_with.false, ← c.closes_with-2.ensures, c.if-closes_with-2.false) c.put_inner.ensures
