-- `report_lines::row_of` meets its contract. Assumes nothing.
use mathlib.Core.Path.{ap, ◌∙◌}
use Prim.Native.Nat.{ℕ, ◌-◌}
use native.Mathlib.Omega.{arith}
use lib.ListN.{take, drop}
use Rattle.property_table.specs.declared.Edition.TheVariants.{First}
use Rattle.property_table.specs.Rows.{row_of}
use Rattle.line_parser.specs.Places.{named as head_told}
use Rattle.report_lines.proofs.HeadLaws.{name_at, nameless, not_named}
use Rattle.report_lines.proofs.row_of.Goals as goal

pub returns-in_default : goal.returns-in_default
returns-in_default c = (nameless _ _ c.read_head.ensures (not_named c.read_head.result c.in_default.not-Ok), omega arith)

pub name_start-start-requires : goal.name_start-start-requires
name_start-start-requires c =
    let h = name_at _ _ _ _ c.read_head.ensures (ap head_told c.in-Ok.is) in
    omega (arith, h.group, h.inside, c.requires.s_len_bound)

pub slice_bounds-find_row-count : goal.slice_bounds-find_row-count
slice_bounds-find_row-count c =
    let h = name_at _ _ _ _ c.read_head.ensures (ap head_told c.in-Ok.is) in
    omega (arith, h.order, c.name_start-start.ensures)

pub slice_bounds-find_row-start : goal.slice_bounds-find_row-start
slice_bounds-find_row-start c =
    let h = name_at _ _ _ _ c.read_head.ensures (ap head_told c.in-Ok.is) in
    omega (arith, h.order, c.name_start-start.ensures)

pub slice_bounds-find_row-end : goal.slice_bounds-find_row-end
slice_bounds-find_row-end c =
    let h = name_at _ _ _ _ c.read_head.ensures (ap head_told c.in-Ok.is) in
    omega (arith, h.inside)

pub returns : goal.returns
returns c =
    let s = c.args.s.now in
    let n = c.in-Ok.head.name_end in
    let e = ap (λ (i : ℕ). row_of First (take (n - i) (drop i s))) c.name_start-start.ensures in
    (c.find_row.ensures.value ∙ e ∙ (name_at _ _ _ _ c.read_head.ensures (ap head_told c.in-Ok.is)).row, c.find_row.ensures.upper_bound)
