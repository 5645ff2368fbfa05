-- `cabbook_tables::uploads::put_sameness` meets its contract. Assumes nothing.
use Rattle.octets.specs.Ascii.{octets}
use Rattle.cabbook_tables.proofs.uploads.put_sameness.Goals as goal

pub returns-then-same : goal.returns-then-same
unfolding octets
returns-then-same c = rw c.if-same.true c.put_all.ensures

pub returns : goal.returns
unfolding octets
returns c = rw c.if-same.false c.put_all-2.ensures
