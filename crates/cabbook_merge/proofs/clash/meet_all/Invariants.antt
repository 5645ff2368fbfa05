-- `cabbook_merge::clash::meet_all` is safe and ends. Assumes nothing.
use Rattle.std.proofs.Common.{length}
use Rattle.cabbook_merge.proofs.clash.meet_all.Given as goal

abbrev pub decreases-loop-left : goal.decreases-loop-left
decreases-loop-left l = length l.left
