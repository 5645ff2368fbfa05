-- `merge_partners::join_marks` meets its contract. Assumes nothing.
use mathlib.Core.Path.{◌≡◌}
use mathlib.Core.Bool.{true}
use Prim.Native.Nat.{◌-◌}
use lib.ListN.{length}
use Rattle.merge_partners.specs.Heads.{Known}
use Rattle.merge_partners.specs.Pairs.{joined, join_all, shared_pairs}
use Rattle.merge_partners.proofs.join_marks.Given as goal

abbrev pub invariant-loop-k : goal.invariant-loop-k
invariant-loop-k l = (join_all (joined true l.initial.p l.initial.t) (shared_pairs l.x.copy.now l.x.records.now l.firsts l.own l.classes l.y.copy.now l.y.records.now l.m.numbers.now l.m.keys.now 0 l.n) ≡ join_all (joined true l.p l.t) (shared_pairs l.x.copy.now l.x.records.now l.firsts l.own l.classes l.y.copy.now l.y.records.now l.m.numbers.now l.m.keys.now l.k (l.n - l.k))) × Known l.x.copy.now l.x.records.now (length l.digests) l.x.copy.now l.x.records.now l.last
