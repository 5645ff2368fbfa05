-- `card_line::parts_of` meets its contract. Assumes nothing.
use Rattle.std.proofs.lemmas.Result.{err_from_is_err_and}
use Rattle.card_line.proofs.PartLaws.{Known, was_read, refused, accepted, uncounted, parts_by, group_low}
use native.Mathlib.Omega.{arith}
use Prim.Native.Nat.{ℕ, ◌-◌}
use mathlib.Core.List.{List}
use lib.ListN.{take, drop}
use Rattle.line_parser.specs.Places.{name_start}
use Rattle.property_table.specs.declared.Edition.{Edition}
use Rattle.property_table.specs.Rows.{row_of}
use Rattle.property_table.proofs.RowLaws.{count_low}
use Rattle.card_line.specs.Parts.{row_of_line}
use mathlib.Core.Path.{◌≡◌, sym, ap, ◌∙◌}
use Rattle.card_line.proofs.parts_of.Goals as goal

pub returns-in_err-line : goal.returns-in_err-line
returns-in_err-line c =
    let p = err_from_is_err_and c.from_residual.result c.from_residual.ensures.1 in
    rw (p.1, p.2) (refused c.args.edition c.args.s.now c.read_line.ensures c.in_err-line.was)

-- the row of the octets from the name's start to its end is that of the line
row_named : (ed : Edition) {l : List ℕ} {g n k v start : ℕ} (w : Known l g n k v) → start ≡ name_start g
    → row_of ed (take (n - start) (drop start l)) ≡ row_of_line ed w.parts
unfolding row_of_line
row_named ed {l} {g} {n} w e = ap (λ (i : ℕ). row_of ed (take (n - i) (drop i l))) e ∙ ap (row_of ed) w.placed.name

pub name_start-start-requires : goal.name_start-start-requires
name_start-start-requires c =
    let here = was_read c.args.s.now c.read_line.ensures c.in_ok-line.was in
    group_low _ _ _ _ _ here.inside c.requires.s_len_bound

pub slice_bounds-find_row-count : goal.slice_bounds-find_row-count
slice_bounds-find_row-count c =
    let here = was_read c.args.s.now c.read_line.ensures c.in_ok-line.was in
    let i = here.inside in omega (arith, i.name, c.name_start-start.ensures)

pub slice_bounds-find_row-start : goal.slice_bounds-find_row-start
slice_bounds-find_row-start c =
    let here = was_read c.args.s.now c.read_line.ensures c.in_ok-line.was in
    let i = here.inside in omega (arith, i.name, c.name_start-start.ensures)

pub slice_bounds-find_row-end : goal.slice_bounds-find_row-end
slice_bounds-find_row-end c =
    let here = was_read c.args.s.now c.read_line.ensures c.in_ok-line.was in
    let i = here.inside in omega (arith, i.params, i.value)

pub kind_at-kind-requires : goal.kind_at-kind-requires
kind_at-kind-requires c =
    let here = was_read c.args.s.now c.read_line.ensures c.in_ok-line.was in
    let k = here in
    record { classes = c.requires.classes; lists = c.requires.lists; row_lt_all = omega (arith, c.find_row-row.ensures.upper_bound, count_low c.args.edition); accepted = accepted _ _ _ _ _ k; s_value = uncounted _ _ _ _ _ k }

pub returns : goal.returns
returns c =
    let here = was_read c.args.s.now c.read_line.ensures c.in_ok-line.was in
    let k = here in
    parts_by c.args.edition _ _ _ _ _ k c.find_row-row.result c.kind_at-kind.result
    (c.find_row-row.ensures.value ∙ row_named c.args.edition k c.name_start-start.ensures) c.kind_at-kind.ensures
