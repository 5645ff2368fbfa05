-- `cabbook_rows::values::put_parts` meets its contract. Assumes nothing.
use Rattle.program_output.specs.Pages.{page}
use Rattle.program_output.proofs.PageLaws.{nothing, piece}
use Rattle.cabbook_rows.specs.Under.{name_most, cut}
use Rattle.cabbook_rows.proofs.PartLaws.{added_same}
use Rattle.cabbook_rows.proofs.values.put_parts.Goals as goal

pub returns : goal.returns
returns c =
    let a = c.args in
    (piece _ (piece _ (nothing (page a.at a.room.now)) (added_same (cut name_most) _ c.part.ensures c.put_cut-name_end.ensures)) (rw (c.parts-parts.ensures, c.part-3.ensures, c.ends_in_escape-after_backslash.ensures, c.part-2.ensures) at c.put_wants.ensures)).sum
