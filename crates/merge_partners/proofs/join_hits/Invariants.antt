-- `merge_partners::join_hits` meets its contract. Assumes nothing.
use mathlib.Core.Path.{◌≡◌}
use mathlib.Core.Bool.{true}
use Prim.Native.Nat.{◌-◌}
use lib.ListN.{length}
use Rattle.merge_partners.specs.Pairs.{joined, join_all, hit_pairs}
use Rattle.merge_partners.proofs.join_hits.Given as goal

abbrev pub invariant-loop-k : goal.invariant-loop-k
invariant-loop-k l = join_all (joined true l.initial.p l.initial.t) (hit_pairs l.x.copy.now l.x.records.now l.i l.key l.y.copy.now l.y.records.now l.m.numbers.now l.m.keys.now 0 (length l.m.keys.now)) ≡ join_all (joined true l.p l.t) (hit_pairs l.x.copy.now l.x.records.now l.i l.key l.y.copy.now l.y.records.now l.m.numbers.now l.m.keys.now l.k (length l.m.keys.now - l.k))
