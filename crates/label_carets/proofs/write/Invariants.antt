-- `label_carets::write` meets its contract. Assumes nothing.
use Prim.Native.Nat.{◌≤◌, ◌-◌}
use lib.ListN.{length, drop}
use Rattle.octets.proofs.Writes.{Written}
use Rattle.label_carets.specs.Decoded.{decoded}
use Rattle.label_carets.specs.declared.Rule.TheVariants.{Rfc6868}
use Rattle.label_carets.proofs.write.Given as goal

abbrev pub invariant-loop-i : goal.invariant-loop-i
invariant-loop-i l = (l.i ≤ length l.label) × Written (decoded Rfc6868 l.label) (decoded Rfc6868 (drop l.i l.label)) l.initial.out l.out l.j

abbrev pub decreases-loop-i : goal.decreases-loop-i
decreases-loop-i l = length l.label - l.i
