-- `text_unescaping::measure_each` meets its contract. Assumes nothing.
use mathlib.Core.Path.{◌≡◌}
use Prim.Native.Nat.{◌≤◌, ◌+◌, ◌-◌}
use lib.ListN.{length, drop}
use Rattle.text_unescaping.specs.Unescaped.{first_fault, unescaped}
use Rattle.text_unescaping.proofs.measure_each.Given as goal

abbrev pub invariant-loop-i : goal.invariant-loop-i
invariant-loop-i l = (l.i ≤ length l.text) × (l.kept ≤ l.i) × (first_fault l.text ≡ l.i + first_fault (drop l.i l.text)) × (length (unescaped l.text) ≡ l.kept + length (unescaped (drop l.i l.text)))

abbrev pub decreases-loop-i : goal.decreases-loop-i
decreases-loop-i l = length l.text - l.i
