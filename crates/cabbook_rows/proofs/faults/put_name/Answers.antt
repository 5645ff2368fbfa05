-- `cabbook_rows::faults::put_name` meets its contract. Assumes nothing.
use borrow.Author.Tests.{lt-ltb, le-ltb, eq-eqb, ne_eqb}
use Rattle.octets.specs.Ascii.{octets}
use Rattle.cabbook_rows.specs.Faults.{name_words}
use Rattle.cabbook_rows.proofs.faults.put_name.Goals as goal

pub returns-then-w : goal.returns-then-w
unfolding octets name_words
returns-then-w c = rw (lt-ltb _ _ c.if-w.true, ← c.part-name.ensures) c.put_about.ensures

pub returns-then-w-eq0 : goal.returns-then-w-eq0
unfolding octets name_words
returns-then-w-eq0 c = rw (le-ltb _ _ c.if-w.false, eq-eqb _ _ c.if-w-eq0.true) c.put_all.ensures

pub returns : goal.returns
unfolding octets name_words
returns c = rw (le-ltb _ _ c.if-w.false, ne_eqb _ _ c.if-w-eq0.false, ← c.part.ensures) c.put_about-2.ensures
