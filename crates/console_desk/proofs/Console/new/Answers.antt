-- `console_desk::Console::new` meets its contract. Assumes nothing.
use Rattle.console_desk.proofs.Console.new.Goals as goal

pub returns : goal.returns
returns c = rw c.new-t.ensures
