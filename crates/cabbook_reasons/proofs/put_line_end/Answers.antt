-- `cabbook_reasons::put_line_end` meets its contract. Assumes nothing.
use borrow.Author.Tests.{eq-eqb, ne_eqb}
use Rattle.octets.specs.Ascii.{octets}
use Rattle.cabbook_reasons.specs.Reasons.{line_end_words}
use Rattle.cabbook_reasons.proofs.put_line_end.Goals as goal

pub returns-then-octet_at-eq10 : goal.returns-then-octet_at-eq10
unfolding line_end_words octets
returns-then-octet_at-eq10 c = rw (← c.octet_at.ensures, eq-eqb _ _ c.if-octet_at-eq10.true) c.put_all.ensures

pub returns : goal.returns
unfolding line_end_words octets
returns c = rw (← c.octet_at.ensures, ne_eqb _ _ c.if-octet_at-eq10.false) c.put_all-2.ensures
