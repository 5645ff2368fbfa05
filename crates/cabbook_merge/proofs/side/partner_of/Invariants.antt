-- `cabbook_merge::side::partner_of` is safe and ends. Assumes nothing.
use Rattle.std.proofs.Common.{length}
use Rattle.cabbook_merge.proofs.side.partner_of.Given as goal

abbrev pub decreases-loop-left : goal.decreases-loop-left
decreases-loop-left l = length l.left
