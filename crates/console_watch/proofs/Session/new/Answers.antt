-- `console_watch::Session::new` meets its contract. Assumes nothing.
use Rattle.console_watch.proofs.Session.new.Goals as goal

pub returns : goal.returns
returns c = rw (c.new.ensures, c.new-2.ensures)
