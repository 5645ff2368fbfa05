-- `console_report::Kept::new` meets its contract. Assumes nothing.
use Rattle.console_report.proofs.Kept.new.Goals as goal

pub returns : goal.returns
returns c = rw (c.new.ensures, c.new-2.ensures)
