-- `merge_partners::put_keys` meets its contract. Assumes nothing.
use mathlib.Core.Path.{◌≡◌}
use Prim.Native.Nat.{◌-◌}
use lib.ListN.{length}
use Rattle.merge_partners.specs.Keys.{sets_from, key_at}
use Rattle.merge_partners.proofs.put_keys.Given as goal

abbrev pub invariant-loop-k : goal.invariant-loop-k
invariant-loop-k l = (length l.keys ≡ length l.initial.keys) × (sets_from (key_at l.marks l.own l.classes) l.initial.keys 0 l.n ≡ sets_from (key_at l.marks l.own l.classes) l.keys l.k (l.n - l.k))
