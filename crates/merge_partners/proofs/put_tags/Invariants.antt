-- `merge_partners::put_tags` meets its contract. Assumes nothing.
use mathlib.Core.Path.{◌≡◌}
use Prim.Native.Nat.{◌-◌}
use lib.ListN.{length}
use Rattle.merge_partners.specs.Keys.{sets_from}
use Rattle.merge_partners.specs.Heads.{Known, tag_at}
use Rattle.merge_partners.proofs.put_tags.Given as goal

abbrev pub invariant-loop-k : goal.invariant-loop-k
invariant-loop-k l = (length l.tags ≡ length l.initial.tags) × (sets_from (tag_at l.x.copy.now l.x.records.now (length l.digests) l.y.copy.now l.y.records.now l.marks l.keys) l.initial.tags 0 (length l.keys) ≡ sets_from (tag_at l.x.copy.now l.x.records.now (length l.digests) l.y.copy.now l.y.records.now l.marks l.keys) l.tags l.k (length l.keys - l.k)) × Known l.x.copy.now l.x.records.now (length l.digests) l.y.copy.now l.y.records.now l.last
