-- `cabbook_tables::fields::put_fields` meets its contract. Assumes nothing.
use Rattle.program_output.specs.Pages.{page}
use Rattle.program_output.proofs.PageLaws.{nothing, piece}
use Rattle.cabbook_tables.proofs.fields.put_fields.Goals as goal

pub returns : goal.returns
returns c =
    rw (← c.name_start-name_from.ensures.value, ← c.before-end.ensures, ← c.part-name.ensures, ← c.part-group.ensures, ← c.part-parameters.ensures)
    (piece _ (piece _ (piece _ (nothing (page c.args.at c.args.room.now)) c.put_column-property_column.ensures) c.put_column-group_column.ensures) c.put_parameters.ensures).sum
