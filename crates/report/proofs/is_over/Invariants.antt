-- `report::is_over` meets its contract. Assumes nothing.
use mathlib.Core.Path.{◌≡◌}
use Rattle.report.specs.Steps.{over}
use Rattle.report.proofs.StepLaws.{over_from}
use Rattle.report.proofs.is_over.Given as goal

abbrev pub invariant-loop-place : goal.invariant-loop-place
invariant-loop-place l = over l.counts l.w ≡ over_from l.counts l.w l.place
