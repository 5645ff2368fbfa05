-- `cabbook_reasons::put_found` meets its contract. Assumes nothing.
use Rattle.octets.specs.Ascii.{octets}
use Rattle.cabbook_reasons.specs.Reasons.{found_words}
use Rattle.cabbook_reasons.proofs.put_found.Goals as goal

pub returns-then-opens_with : goal.returns-then-opens_with
unfolding found_words octets
returns-then-opens_with c = rw (← c.opens_with.ensures, c.if-opens_with.true) c.put_all.ensures

pub returns-then-opens_with-2 : goal.returns-then-opens_with-2
unfolding found_words octets
returns-then-opens_with-2 c = rw (← c.opens_with.ensures, c.if-opens_with.false, ← c.opens_with-2.ensures, c.if-opens_with-2.true) c.put_all-then-opens_with-2.ensures

pub returns-then-opens_with-3 : goal.returns-then-opens_with-3
unfolding found_words octets
returns-then-opens_with-3 c = rw (← c.opens_with.ensures, c.if-opens_with.false, ← c.opens_with-2.ensures, c.if-opens_with-2.false, ← c.opens_with-3.ensures, c.if-opens_with-3.true) c.put_all-then-opens_with-3.ensures

pub returns-then-opens_with-4 : goal.returns-then-opens_with-4
unfolding found_words octets
returns-then-opens_with-4 c = rw (← c.opens_with.ensures, c.if-opens_with.false, ← c.opens_with-2.ensures, c.if-opens_with-2.false, ← c.opens_with-3.ensures, c.if-opens_with-3.false, ← c.opens_with-4.ensures, c.if-opens_with-4.true) c.put_all-then-opens_with-4.ensures

pub returns : goal.returns
unfolding found_words octets
returns c = rw (← c.opens_with.ensures, c.if-opens_with.false, ← c.opens_with-2.ensures, c.if-opens_with-2.false, ← c.opens_with-3.ensures, c.if-opens_with-3.false, ← c.opens_with-4.ensures, c.if-opens_with-4.false) c.put_all-2.ensures
