-- `report::rows::put_rows` meets its contract. Assumes nothing.
use borrow.Author.Rules.{rules}
use mathlib.Core.Path.{refl, sym, ap, ◌∙◌}
use Rattle.program_output.proofs.PageLaws.{added_piece}
use Rattle.report_weights.specs.Counts.{count_at}
use Rattle.report.specs.Text.{shown}
use Rattle.report.proofs.TextLaws.{as_text, rows_turn, rows_done}
use Rattle.report.proofs.rows.put_rows.Goals as goal

pub loop-place-init : goal.loop-place-init
loop-place-init c = (refl, refl)

pub loop-place-preserved : goal.loop-place-preserved
loop-place-preserved c =
    let l = c.loop-place in
    let p = c.loop-place-test.true in
    let row = as_text _ _ _ c.put_row-at.ensures (ap (shown (count_at l.place)) c.wide_number.ensures.0) in
    (search rules, l.invariant.1 ∙ sym (added_piece _ _ _ _ _ (rows_turn _ l.place p) row))

pub shape_of-room : goal.shape_of-room
shape_of-room c = c.loop-place.invariant.0

pub returns : goal.returns
returns c =
    let l = c.loop-place in
    sym (l.invariant.1 ∙ rows_done _ l.place _ c.loop-place-test.false)
