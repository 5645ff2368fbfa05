-- `merge_sides::find_line` meets its contract. Assumes nothing.
use mathlib.Core.Path.{◌≡◌}
use Prim.Native.Nat.{◌-◌}
use Rattle.merge_sides.specs.Lines.{first_line}
use Rattle.merge_sides.proofs.find_line.Given as goal

abbrev pub invariant-loop-i : goal.invariant-loop-i
invariant-loop-i l = first_line l.rs l.row 0 l.n ≡ first_line l.rs l.row l.i (l.n - l.i)
