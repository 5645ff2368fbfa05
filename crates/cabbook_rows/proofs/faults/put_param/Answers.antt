-- `cabbook_rows::faults::put_param` meets its contract. Assumes nothing.
use borrow.Author.Tests.{lt-ltb, le-ltb}
use Rattle.octets.specs.Ascii.{octets}
use Rattle.cabbook_rows.specs.Faults.{param_words}
use Rattle.cabbook_rows.proofs.faults.put_param.Goals as goal

pub returns-then-w : goal.returns-then-w
unfolding octets param_words
returns-then-w c = rw (lt-ltb _ _ c.if-w.true, ← c.part.ensures) c.put_about.ensures

pub returns : goal.returns
unfolding octets param_words
returns c = rw (le-ltb _ _ c.if-w.false) c.put_all.ensures
