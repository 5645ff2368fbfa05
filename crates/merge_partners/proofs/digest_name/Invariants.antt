-- `merge_partners::digest_name` meets its contract. Assumes nothing.
use mathlib.Core.Path.{◌≡◌}
use Prim.Native.Nat.{◌<◌}
use lib.ListN.{drop}
use Rattle.merge_partners.specs.Heads.{digest_from}
use Rattle.merge_partners.proofs.digest_name.Given as goal

abbrev pub invariant-loop-b : goal.invariant-loop-b
invariant-loop-b l = (l.digest < 281474976710597) × (digest_from 0 l.s ≡ digest_from l.digest (drop l.b-index l.s))
