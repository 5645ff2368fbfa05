-- `console_entries::entries::put_read_fresh` meets its contract. Assumes nothing.
use Rattle.program_output.specs.Pages.{page}
use Rattle.console_entries.proofs.RoomLaws.{read_part}
use Rattle.console_entries.proofs.entries.put_read_fresh.Goals as goal

pub returns : goal.returns
returns c =
    let a = c.args in
    read_part a.input.now 70000 a.r (page a.at a.out.now) c.requires.0 a.edition a.k c.requires.1 c.put_read.ensures
