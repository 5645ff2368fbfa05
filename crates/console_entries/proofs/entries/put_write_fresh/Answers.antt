-- `console_entries::entries::put_write_fresh` meets its contract. Assumes nothing.
use Rattle.program_output.specs.Pages.{page}
use Rattle.console_entries.proofs.RoomLaws.{write_part}
use Rattle.console_entries.proofs.entries.put_write_fresh.Goals as goal

pub returns : goal.returns
returns c =
    let a = c.args in
    write_part a.input.now 70000 a.r (page a.at a.out.now) c.requires a.entry c.put_write.ensures
