-- `report::rows::put_row` meets its contract. Assumes nothing.
use mathlib.Core.Path.{sym, ◌∙◌}
use mathlib.Core.List.{[], ◌∷◌}
use Rattle.program_output.proofs.PageLaws.{then}
use Rattle.report.proofs.TextLaws.{as_text, not_shown, is_row}
use Rattle.report.proofs.rows.put_row.Goals as goal

pub returns-then-not-is_shown : goal.returns-then-not-is_shown
returns-then-not-is_shown c = not_shown _ _ _ (sym c.is_shown.ensures ∙ c.if-not-is_shown.true)

pub returns : goal.returns
returns c =
    as_text _ _ _ (then _ _ _ c.put_name-named.ensures (then (32 ∷ []) _ _ c.put-spaced.ensures (then _ (10 ∷ []) _ c.put_number-numbered.ensures c.put.ensures)))
    (is_row _ _ (sym c.is_shown.ensures ∙ c.if-not-is_shown.false))
