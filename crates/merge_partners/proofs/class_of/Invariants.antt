-- `merge_partners::class_of` meets its contract. Assumes nothing.
use mathlib.Core.Path.{◌≡◌}
use Prim.Native.Nat.{◌-◌}
use Rattle.merge_partners.specs.Keys.{class_from}
use Rattle.merge_partners.proofs.class_of.Given as goal

abbrev pub invariant-loop-i : goal.invariant-loop-i
invariant-loop-i l = class_from l.ca l.fn.a l.uri 0 16 ≡ class_from l.ca l.fn.a l.uri l.i (16 - l.i)
