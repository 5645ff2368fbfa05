-- `report::rows::is_shown` meets its contract. Assumes nothing.
use Rattle.report.proofs.TextLaws.{total_has, other_has}
use Rattle.report.proofs.rows.is_shown.Goals as goal

pub returns-then-place-lt-REFUSALS : goal.returns-then-place-lt-REFUSALS
returns-then-place-lt-REFUSALS c = total_has _ _ c.if-place-lt-REFUSALS.true

pub returns : goal.returns
returns c = other_has _ _ c.if-place-lt-REFUSALS.false
