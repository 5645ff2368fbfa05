-- `merge_partners::put_digests` meets its contract. Assumes nothing.
use mathlib.Core.Path.{◌≡◌}
use Prim.Native.Nat.{◌-◌}
use lib.ListN.{length}
use Rattle.merge_partners.specs.Keys.{sets_from}
use Rattle.merge_partners.specs.Heads.{digest_of}
use Rattle.merge_partners.proofs.put_digests.Given as goal

abbrev pub invariant-loop-i : goal.invariant-loop-i
invariant-loop-i l = (length l.digests ≡ length l.initial.digests) × (sets_from (digest_of l.side.copy.now l.side.records.now) l.initial.digests 0 l.n ≡ sets_from (digest_of l.side.copy.now l.side.records.now) l.digests l.i (l.n - l.i))
