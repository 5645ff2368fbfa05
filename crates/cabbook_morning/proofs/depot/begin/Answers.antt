-- `cabbook_morning::depot::begin` meets its contract. Assumes nothing.
use Rattle.desk_slots.specs.Sound.{bounds}
use Rattle.desk.specs.Steps.{new_step}
use Rattle.cabbook_morning.proofs.depot.begin.Goals as goal

pub returns : goal.returns
unfolding new_step bounds
returns c = rw (c.new-t.ensures, c.no_upload-none.ensures)
