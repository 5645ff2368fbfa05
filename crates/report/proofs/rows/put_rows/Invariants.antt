-- `report::rows::put_rows` meets its contract. Assumes nothing.
use mathlib.Core.Path.{◌≡◌}
use lib.ListN.{length, drop}
use Rattle.program_output.specs.Pages.{page, added}
use Rattle.report_weights.specs.Counts.{counts}
use Rattle.report.specs.Text.{rows_of}
use Rattle.report.proofs.rows.put_rows.Given as goal

abbrev pub invariant-loop-place : goal.invariant-loop-place
invariant-loop-place l = (length l.room ≡ length l.initial.room) × (added (rows_of counts l.values) (page 0 l.initial.room) ≡ added (rows_of (drop l.place counts) (drop l.place l.values)) (page l.at l.room))
