-- `cabbook_report::put_bars` meets its contract. Assumes nothing.
use mathlib.Core.Path.{◌≡◌}
use Prim.Native.Nat.{◌-◌, ◌≤◌}
use lib.ListN.{length}
use Rattle.program_output.specs.Pages.{page, added}
use Rattle.report_lines.specs.Rows.{numbers_from}
use Rattle.cabbook_report.specs.Bars.{bars}
use Rattle.cabbook_report.proofs.BarLaws.{left}
use Rattle.cabbook_report.proofs.put_bars.Given as goal

abbrev pub invariant-loop-place : goal.invariant-loop-place
invariant-loop-place l = (l.place ≤ 59) × (length l.room ≡ length l.initial.room) × (added (bars l.values (numbers_from 0 59)) (page 0 l.initial.room) ≡ added (bars l.values (left l.place)) (page l.at l.room))
