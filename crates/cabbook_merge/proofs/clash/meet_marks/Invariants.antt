-- `cabbook_merge::clash::meet_marks` is safe and ends. Assumes nothing.
use Rattle.std.proofs.Common.{length}
use Rattle.cabbook_merge.proofs.clash.meet_marks.Given as goal

abbrev pub decreases-loop-left : goal.decreases-loop-left
decreases-loop-left l = length l.left
