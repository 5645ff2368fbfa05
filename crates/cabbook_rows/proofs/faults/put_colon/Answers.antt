-- `cabbook_rows::faults::put_colon` meets its contract. Assumes nothing.
use Rattle.octets.specs.Ascii.{octets}
use Rattle.cabbook_rows.specs.Faults.{colon_words}
use Rattle.cabbook_rows.proofs.faults.put_colon.Goals as goal

pub returns-then-w : goal.returns-then-w
unfolding octets colon_words
returns-then-w c = rw (c.if-w.true, ← c.part-name.ensures) c.put_about.ensures

pub returns : goal.returns
unfolding octets colon_words
returns c = rw (c.if-w.false, ← c.part-name.ensures) c.put_about-2.ensures
