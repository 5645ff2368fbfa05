-- `watch::end_of` meets its contract. Assumes nothing.
use Rattle.watch.proofs.SoundLaws.{end_zero, end_some}
use Rattle.watch.proofs.end_of.Goals as goal

pub returns-then-p-eq0 : goal.returns-then-p-eq0
returns-then-p-eq0 c = end_zero c.args.place c.if-p-eq0.true

pub returns : goal.returns
returns c = end_some c.args.place c.if-p-eq0.false
