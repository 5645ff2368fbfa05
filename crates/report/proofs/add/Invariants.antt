-- `report::add` meets its contract. Assumes nothing.
use mathlib.Core.Path.{◌≡◌}
use lib.ListN.{length}
use Rattle.report.proofs.StepLaws.{sums_to}
use Rattle.report.proofs.add.Given as goal

abbrev pub invariant-loop-place : goal.invariant-loop-place
invariant-loop-place l = (length l.next ≡ 59) × (l.next ≡ sums_to l.counts l.w l.place)
