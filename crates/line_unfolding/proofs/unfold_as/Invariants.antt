-- `line_unfolding::unfold_as` meets its contract. Assumes nothing.
use Prim.Native.Nat.{◌≤◌, ◌-◌}
use lib.ListN.{length, drop}
use Rattle.octets.specs.Scan.{gather}
use Rattle.octets.proofs.Writes.{Written}
use Rattle.line_folds.specs.Folds.{passed, kept}
use Rattle.line_unfolding.proofs.unfold_as.Given as goal

abbrev pub invariant-loop-i : goal.invariant-loop-i
invariant-loop-i l = (l.i ≤ length l.s) × Written (gather passed kept l.s 0) (gather passed kept (drop l.i l.s) 0) l.initial.d l.d l.j

abbrev pub decreases-loop-i : goal.decreases-loop-i
decreases-loop-i l = length l.s - l.i
