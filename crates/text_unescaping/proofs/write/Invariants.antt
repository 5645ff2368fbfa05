-- `text_unescaping::write` meets its contract. Assumes nothing.
use mathlib.Core.Path.{◌≡◌}
use Prim.Native.Nat.{◌≤◌, ◌+◌, ◌-◌}
use lib.ListN.{length, drop}
use Rattle.octets.proofs.Writes.{Written}
use Rattle.text_unescaping.specs.Unescaped.{first_fault, unescaped}
use Rattle.text_unescaping.proofs.write.Given as goal

abbrev pub invariant-loop-i : goal.invariant-loop-i
invariant-loop-i l = (l.i ≤ length l.text) × (l.i + first_fault (drop l.i l.text) ≡ length l.text) × Written (unescaped l.text) (unescaped (drop l.i l.text)) l.initial.out l.out l.j

abbrev pub decreases-loop-i : goal.decreases-loop-i
decreases-loop-i l = length l.text - l.i
