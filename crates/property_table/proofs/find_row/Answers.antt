-- `property_table::find_row` meets its contract. Assumes nothing.
use mathlib.Core.Path.{sym, ◌∙◌}
use Prim.Native.Nat.{◌<◌, ◌≤◌}
use native.Mathlib.Omega.{arith}
use borrow.Author.Tests.{lt-ltb, le-ltb}
use Rattle.property_table.specs.Rows.{row_count}
use Rattle.property_table.proofs.RowLaws.{has_row, row_clipped}
use Rattle.property_table.proofs.find_row.Goals as goal

pub returns-then-row-row_count : goal.returns-then-row-row_count
returns-then-row-row_count c =
    let a = c.args in
    let low : c.find_any-row.result < row_count a.edition = omega (arith, c.row_count.ensures) in
    record { value = sym (row_clipped a.edition a.name.now ∙ rw (sym c.find_any-row.ensures.value, lt-ltb _ _ low)); upper_bound = low }

pub returns : goal.returns
returns c =
    let a = c.args in
    let high : row_count a.edition ≤ c.find_any-row.result = omega (arith, c.row_count.ensures) in
    record { value = sym (row_clipped a.edition a.name.now ∙ rw (sym c.find_any-row.ensures.value, le-ltb _ _ high)); upper_bound = has_row a.edition }
