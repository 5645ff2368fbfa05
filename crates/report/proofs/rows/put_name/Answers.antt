-- `report::rows::put_name` meets its contract. Assumes nothing.
use mathlib.Core.Path.{◌∙◌}
use mathlib.Core.List.{[], ◌∷◌}
use Rattle.program_output.proofs.PageLaws.{then}
use Rattle.report.proofs.TextLaws.{as_text, refusal_named, property_named}
use Rattle.report.proofs.rows.put_name.Goals as goal

pub returns-then-place-lt-PROPERTIES : goal.returns-then-place-lt-PROPERTIES
returns-then-place-lt-PROPERTIES c =
    as_text _ _ _ (then (114 ∷ []) _ _ c.put-next.ensures c.put_number.ensures)
    (refusal_named _ _ c.if-place-lt-REFUSALS.false c.if-place-lt-PROPERTIES.true (c.wide_number.ensures.0 ∙ c.refusal_at.ensures))

pub returns : goal.returns
returns c =
    as_text _ _ _ (then (112 ∷ []) _ _ c.put-next-2.ensures c.put_number-2.ensures)
    (property_named _ c.if-place-lt-PROPERTIES.false)
