-- `property_table::spells` meets its contract. Assumes nothing.
use mathlib.Core.Path.{◌≡◌, sym, ◌∙◌}
use Prim.Native.Nat.{◌<◌}
use native.Mathlib.Omega.{arith}
use lib.ListN.{length}
use Rattle.octets.proofs.CaseLaws.{same_over}
use Rattle.property_table.specs.Rows.{row_at}
use Rattle.property_table.proofs.RowLaws.{name_short, agree_both}
use Rattle.property_table.proofs.Letters.{spelt_other, spelt_next, spelt_first}
use Rattle.property_table.proofs.spells.Goals as goal

pub loop-i-init : goal.loop-i-init
loop-i-init c = spelt_first c.args.name.now (row_at c.args.row) c.requires.row_value

pub overflow_add-base : goal.overflow_add-base
overflow_add-base c =
    let as_long : length (row_at c.args.row).name ≡ length c.args.name.now = (agree_both c.args.name.now (row_at c.args.row) c.requires.row_value).0 in
    let short : length c.args.name.now < 14 = omega (arith, as_long, name_short c.args.row c.requires.row_lt_all) in
    omega (arith, short)

pub bounds-rows-base : goal.bounds-rows-base
bounds-rows-base c =
    let as_long : length (row_at c.args.row).name ≡ length c.args.name.now = (agree_both c.args.name.now (row_at c.args.row) c.requires.row_value).0 in
    let short : length c.args.name.now < 14 = omega (arith, as_long, name_short c.args.row c.requires.row_lt_all) in
    omega (arith, short)

pub returns-then-name-i : goal.returns-then-name-i
returns-then-name-i c =
    let as_long : length (row_at c.args.row).name ≡ length c.args.name.now = (agree_both c.args.name.now (row_at c.args.row) c.requires.row_value).0 in
    let a = c.args in
    let p = c.requires in
    sym (c.loop-i.invariant ∙ spelt_other a.rows.now a.name.now a.row c.loop-i.i p.lists p.row_lt_all as_long (omega arith) (omega arith) (omega (arith, c.type_inv.name c.loop-i.i)) c.if-name-i.true)

pub loop-i-preserved : goal.loop-i-preserved
loop-i-preserved c =
    let as_long : length (row_at c.args.row).name ≡ length c.args.name.now = (agree_both c.args.name.now (row_at c.args.row) c.requires.row_value).0 in
    let a = c.args in
    let p = c.requires in
    c.loop-i.invariant ∙ spelt_next a.rows.now a.name.now a.row c.loop-i.i p.lists p.row_lt_all as_long (omega arith) (omega arith) (omega (arith, c.type_inv.name c.loop-i.i)) c.if-name-i.false

pub returns : goal.returns
returns c =
    let as_long : length (row_at c.args.row).name ≡ length c.args.name.now = (agree_both c.args.name.now (row_at c.args.row) c.requires.row_value).0 in
    let l = c.loop-i in
    let a = c.args in
    sym (l.invariant ∙ same_over a.name.now (row_at a.row).name l.i (omega arith) (omega (arith, as_long)))
