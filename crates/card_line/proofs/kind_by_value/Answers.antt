-- `card_line::kind_by_value` meets its contract. Assumes nothing.
use mathlib.Core.Path.{sym, ◌∙◌}
use Rattle.octets.specs.Ascii.{octets}
use Rattle.property_table.specs.Rows.{value_name}
use Rattle.card_line.specs.Parts.{first_value}
use Rattle.card_line.proofs.PartLaws.{value_none, value_some, sought, unsought}
use Rattle.card_line.proofs.kind_by_value.Goals as goal

pub returns-in-None : goal.returns-in-None
unfolding octets
returns-in-None c =
    let a = c.args in
    value_none a.own (first_value value_name a.s.now)
    (unsought a.s.now a.name_end c.requires.accepted value_name c.param_first.ensures c.in-None.is)

pub slice_bounds-kind_named-count : goal.slice_bounds-kind_named-count
unfolding octets
slice_bounds-kind_named-count c =
    let there = sought c.args.s.now c.args.name_end c.requires.accepted value_name c.param_first.ensures c.in-Some.is in
    there.order

pub slice_bounds-kind_named-start : goal.slice_bounds-kind_named-start
unfolding octets
slice_bounds-kind_named-start c =
    let there = sought c.args.s.now c.args.name_end c.requires.accepted value_name c.param_first.ensures c.in-Some.is in
    there.order

pub slice_bounds-kind_named-end : goal.slice_bounds-kind_named-end
unfolding octets
slice_bounds-kind_named-end c =
    let there = sought c.args.s.now c.args.name_end c.requires.accepted value_name c.param_first.ensures c.in-Some.is in
    there.inside

pub returns-in-Some : goal.returns-in-Some
unfolding octets
returns-in-Some c =
    let there = sought c.args.s.now c.args.name_end c.requires.accepted value_name c.param_first.ensures c.in-Some.is in
    let a = c.args in
    c.kind_named.ensures.value ∙ value_some a.own (first_value value_name a.s.now) _ there.octets
