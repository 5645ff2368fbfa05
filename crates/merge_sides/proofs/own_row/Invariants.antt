-- `merge_sides::own_row` meets its contract. Assumes nothing.
use mathlib.Core.Path.{◌≡◌}
use Prim.Native.Nat.{◌-◌, ◌≤◌}
use Rattle.merge_sides.specs.Sources.{with_lines, own_row}
use Rattle.merge_sides.proofs.own_row.Given as goal

abbrev pub invariant-loop-i : goal.invariant-loop-i
invariant-loop-i l = (l.r.count ≤ l.i) × (own_row l.c l.rs l.n ≡ with_lines l.r l.c l.rs l.i (l.n - l.i))
