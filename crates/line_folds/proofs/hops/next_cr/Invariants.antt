-- `line_folds::hops::next_cr` meets its contract. Assumes nothing.
use mathlib.Core.Path.{◌≡◌}
use Prim.Native.Nat.{◌≤◌, ◌+◌}
use lib.ListN.{length, drop}
use Rattle.octets.specs.Classes.{run}
use Rattle.line_folds.specs.Folds.{not_cr}
use Rattle.line_folds.proofs.hops.next_cr.Given as goal

abbrev pub invariant-loop-i : goal.invariant-loop-i
invariant-loop-i l = (l.i ≤ length l.s) × (l.from + run not_cr (drop l.from l.s) ≡ l.i + run not_cr (drop l.i l.s))
