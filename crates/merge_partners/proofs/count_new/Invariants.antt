-- `merge_partners::count_new` meets its contract. Assumes nothing.
use mathlib.Core.Path.{◌≡◌}
use Prim.Native.Nat.{◌-◌, ◌+◌, ◌≤◌}
use lib.ListN.{length}
use Rattle.merge_partners.specs.Heads.{count_new}
use Rattle.merge_partners.proofs.count_new.Given as goal

abbrev pub invariant-loop-k : goal.invariant-loop-k
invariant-loop-k l = (l.hits ≤ l.k) × (count_new l.tags l.seats l.own l.partner 0 (length l.tags) ≡ l.hits + count_new l.tags l.seats l.own l.partner l.k (length l.tags - l.k))
