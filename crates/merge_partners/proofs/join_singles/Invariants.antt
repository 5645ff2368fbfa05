-- `merge_partners::join_singles` meets its contract. Assumes nothing.
use mathlib.Core.Path.{◌≡◌}
use mathlib.Core.Bool.{true}
use Prim.Native.Nat.{◌-◌}
use Rattle.merge_partners.specs.Pairs.{joined, join_all, single_pairs}
use Rattle.merge_partners.proofs.join_singles.Given as goal

abbrev pub invariant-loop-row : goal.invariant-loop-row
invariant-loop-row l = join_all (joined true l.initial.p l.initial.t) (single_pairs l.x.records.now l.x.lines l.y.records.now l.y.lines 0 39) ≡ join_all (joined true l.p l.t) (single_pairs l.x.records.now l.x.lines l.y.records.now l.y.lines l.row (39 - l.row))
