-- `merge_partners::classes_of` meets its contract. Assumes nothing.
use mathlib.Core.Path.{◌≡◌}
use Prim.Native.Nat.{◌-◌}
use Rattle.merge_partners.specs.Keys.{sets_from, class_at, classes_of}
use Rattle.merge_partners.proofs.classes_of.Given as goal

abbrev pub invariant-loop-i : goal.invariant-loop-i
invariant-loop-i l = classes_of l.ca l.a l.c l.fn.own ≡ sets_from (class_at l.ca l.a l.c l.fn.own) l.classes l.i (16 - l.i)
