-- `merge::covers` meets its contract. Assumes nothing.
use mathlib.Core.Path.{◌≡◌}
use Prim.Native.Nat.{◌-◌}
use Rattle.merge.specs.Plans.{covers_from}
use Rattle.merge.proofs.covers.Given as goal

abbrev pub invariant-loop-i : goal.invariant-loop-i
invariant-loop-i l = covers_from l.p l.q 0 4096 ≡ covers_from l.p l.q l.i (4096 - l.i)
