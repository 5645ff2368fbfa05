-- `cabbook_reasons::is_utf16` meets its contract. Assumes nothing.
use borrow.Author.Tests.{eq-eqb, ne_eqb}
use Rattle.cabbook_reasons.specs.Reasons.{utf16}
use Rattle.cabbook_reasons.proofs.is_utf16.Goals as goal

pub returns-then-first-eq255 : goal.returns-then-first-eq255
unfolding utf16
returns-then-first-eq255 c = rw (← c.octet_at-first.ensures, ← c.octet_at-second.ensures, eq-eqb _ _ c.if-first-eq255.true)

pub returns-then-first-eq254 : goal.returns-then-first-eq254
unfolding utf16
returns-then-first-eq254 c = rw (← c.octet_at-first.ensures, ← c.octet_at-second.ensures, ne_eqb _ _ c.if-first-eq255.false, eq-eqb _ _ c.if-first-eq254.true)

pub returns : goal.returns
unfolding utf16
returns c = rw (← c.octet_at-first.ensures, ne_eqb _ _ c.if-first-eq255.false, ne_eqb _ _ c.if-first-eq254.false)
