-- `text_marks::counts::count_by` meets its contract. Assumes nothing.
use mathlib.Core.Path.{◌≡◌}
use mathlib.Core.Bool.{Bool}
use Prim.Native.Nat.{ℕ, ◌≤◌, ◌<◌, ◌+◌}
use lib.ListN.{drop}
use Rattle.octets.specs.Classes.{bit}
use Rattle.octets.specs.Counts.{count}
use Rattle.text_marks.proofs.counts.count_by.Given as goal

abbrev pub invariant-loop-b : goal.invariant-loop-b
invariant-loop-b g l =
    (l.n ≤ l.b-index)
    × ((p : ℕ → Bool) → ((b r : ℕ) → b < 256 → goal.F-post g l.mark b r → r ≡ bit (p b) 1) → count p l.s ≡ l.n + count p (drop l.b-index l.s))
