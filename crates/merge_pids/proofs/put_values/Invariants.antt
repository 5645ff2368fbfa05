-- `merge_pids::put_values` meets its contract. Assumes nothing.
use mathlib.Core.Path.{◌≡◌}
use Prim.Native.Nat.{ℕ, suc, ◌-◌, ◌<◌}
use lib.ListN.{length, drop}
use Rattle.merge_pids.specs.Marks.{marked, put_all, values_marks}
use Rattle.merge_pids.proofs.put_values.Given as goal

abbrev pub invariant-loop-place : goal.invariant-loop-place
invariant-loop-place l = (n : ℕ) × (length l.s - l.place < n) × (length l.out ≡ length l.initial.out) × (put_all (marked l.at l.initial.out) (values_marks l.line (suc (length (drop l.from l.s))) (drop l.from l.s)) ≡ put_all (marked l.next l.out) (values_marks l.line n (drop l.place l.s)))

abbrev pub decreases-loop-place : goal.decreases-loop-place
decreases-loop-place l = length l.s - l.place
