-- `merge_partners::head_of` meets its contract. Assumes nothing.
use mathlib.Core.Path.{◌≡◌}
use Prim.Native.Nat.{◌-◌}
use lib.ListN.{length}
use Rattle.merge_partners.specs.Heads.{head_from}
use Rattle.merge_partners.proofs.head_of.Given as goal

abbrev pub invariant-loop-i : goal.invariant-loop-i
invariant-loop-i l = head_from l.x.copy.now l.x.records.now l.y.copy.now l.y.records.now l.j 0 (length l.digests) ≡ head_from l.x.copy.now l.x.records.now l.y.copy.now l.y.records.now l.j l.i (length l.digests - l.i)
