-- `label_carets::measure` meets its contract. Assumes nothing.
use mathlib.Core.Path.{◌≡◌}
use Prim.Native.Nat.{◌≤◌, ◌+◌, ◌-◌}
use lib.ListN.{length, drop}
use Rattle.label_carets.specs.Decoded.{decoded}
use Rattle.label_carets.specs.declared.Rule.TheVariants.{Rfc6868}
use Rattle.label_carets.proofs.measure.Given as goal

abbrev pub invariant-loop-i : goal.invariant-loop-i
invariant-loop-i l = (l.i ≤ length l.label) × (l.kept ≤ l.i) × (length (decoded Rfc6868 l.label) ≡ l.kept + length (decoded Rfc6868 (drop l.i l.label)))

abbrev pub decreases-loop-i : goal.decreases-loop-i
decreases-loop-i l = length l.label - l.i
