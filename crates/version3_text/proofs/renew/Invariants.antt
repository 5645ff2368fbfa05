-- `version3_text::renew` meets its contract. Assumes nothing.
use Prim.Native.Nat.{◌≤◌, ◌-◌}
use lib.ListN.{length, drop}
use Rattle.octets.proofs.Writes.{Written}
use Rattle.version3_text.specs.Renewed.{renewed}
use Rattle.version3_text.proofs.renew.Given as goal

abbrev pub invariant-loop-i : goal.invariant-loop-i
invariant-loop-i l = (l.i ≤ length l.text) × Written (renewed l.whole l.text) (renewed l.whole (drop l.i l.text)) l.initial.out l.out l.j

abbrev pub decreases-loop-i : goal.decreases-loop-i
decreases-loop-i l = length l.text - l.i
