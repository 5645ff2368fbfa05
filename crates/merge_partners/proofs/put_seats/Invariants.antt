-- `merge_partners::put_seats` meets its contract. Assumes nothing.
use mathlib.Core.Path.{◌≡◌}
use Prim.Native.Nat.{◌-◌}
use lib.ListN.{length}
use Rattle.merge_partners.specs.Keys.{sets_from}
use Rattle.merge_partners.specs.Heads.{seat_at}
use Rattle.merge_partners.proofs.put_seats.Given as goal

abbrev pub invariant-loop-k : goal.invariant-loop-k
invariant-loop-k l = (length l.seats ≡ length l.initial.seats) × (sets_from (seat_at l.marks) l.initial.seats 0 l.n ≡ sets_from (seat_at l.marks) l.seats l.k (l.n - l.k))
