-- `version3_judge::note` meets its contract. Assumes nothing.
use Rattle.version3_judge.specs.Judge.{noted}
use Rattle.version3_judge.proofs.note.Goals as goal

pub returns : goal.returns
unfolding noted
returns c = rw c.phase_after.ensures
