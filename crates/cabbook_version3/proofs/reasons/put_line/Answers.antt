-- `cabbook_version3::reasons::put_line` is safe. Assumes nothing.
use Rattle.property_table.specs.declared.Edition.TheVariants.{First}
use Rattle.card_line.proofs.PartLaws.{read, read_accepted}
use Rattle.cabbook_version3.proofs.reasons.put_line.Goals as goal

pub put_parts-requires : goal.put_parts-requires
put_parts-requires c =
    let s = c.args.line.now in
    let x = c.in-Ok.x in
    let r = read First s x c.in-Ok.ensures in
    record { classes = c.table-t.ensures; accepted = (read_accepted First s x r, r.low) }
