-- `cabbook_rows::rows::column_of` meets its contract. Assumes nothing.
use native.Mathlib.Omega.{arith}
use Rattle.octets.specs.Slices.{part}
use Rattle.cabbook_positions.specs.Positions.{is_first}
use Rattle.cabbook_positions.proofs.PositionLaws.{count_le}
use Rattle.cabbook_rows.proofs.PartLaws.{part_le}
use Rattle.cabbook_rows.proofs.rows.column_of.Goals as goal

pub overflow_add-result : goal.overflow_add-result
overflow_add-result c =
    let s = c.args.s.now in
    let a = c.row_start-start.result in
    let b = c.least-end.result in
    let e = rw c.part.ensures at c.characters.ensures in
    omega (arith, e, count_le is_first (part s a b), part_le s a b)

pub returns : goal.returns
returns c = rw (c.characters.ensures, c.part.ensures, c.row_start-start.ensures, c.least-end.ensures.value)
