-- `merge::put_pairs` meets its contract. Assumes nothing.
use mathlib.Core.Path.{◌≡◌}
use Prim.Native.Nat.{◌-◌}
use lib.ListN.{length}
use Rattle.merge_pids.specs.Marks.{marked}
use Rattle.merge.specs.Plans.{put_partners}
use Rattle.merge.proofs.put_pairs.Given as goal

abbrev pub invariant-loop-i : goal.invariant-loop-i
invariant-loop-i l = (length l.out ≡ length l.initial.out) × (put_partners (marked 0 l.initial.out) l.p 0 4096 ≡ put_partners (marked l.at l.out) l.p l.i (4096 - l.i))
