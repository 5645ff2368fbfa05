-- `merge_sides::put_marks` meets its contract. Assumes nothing.
use mathlib.Core.Path.{◌≡◌}
use Prim.Native.Nat.{◌-◌}
use lib.ListN.{length}
use Rattle.merge_pids.specs.Marks.{marked, put_all}
use Rattle.merge_sides.specs.Marks.{marks_from}
use Rattle.merge_sides.proofs.put_marks.Given as goal

abbrev pub invariant-loop-i : goal.invariant-loop-i
invariant-loop-i l = (length l.out ≡ length l.initial.out) × (put_all (marked 0 l.initial.out) (marks_from l.c l.rs 0 l.n) ≡ put_all (marked l.next l.out) (marks_from l.c l.rs l.i (l.n - l.i)))
