-- `card_line::param_says` meets its contract. Assumes nothing.
use mathlib.Core.Path.{sym, ◌∙◌}
use Rattle.card_line.specs.Parts.{first_value}
use Rattle.card_line.proofs.PartLaws.{says_none, says_some, sought, unsought}
use Rattle.card_line.proofs.param_says.Goals as goal

pub returns-in-None : goal.returns-in-None
returns-in-None c =
    let a = c.args in
    says_none a.text.now a.missing (first_value a.name.now a.s.now)
    (unsought a.s.now a.name_end c.requires.accepted a.name.now c.param_first.ensures c.in-None.is)

pub slice_bounds-same_name-count : goal.slice_bounds-same_name-count
slice_bounds-same_name-count c =
    let there = sought c.args.s.now c.args.name_end c.requires.accepted c.args.name.now c.param_first.ensures c.in-Some.is in
    there.order

pub slice_bounds-same_name-start : goal.slice_bounds-same_name-start
slice_bounds-same_name-start c =
    let there = sought c.args.s.now c.args.name_end c.requires.accepted c.args.name.now c.param_first.ensures c.in-Some.is in
    there.order

pub slice_bounds-same_name-end : goal.slice_bounds-same_name-end
slice_bounds-same_name-end c =
    let there = sought c.args.s.now c.args.name_end c.requires.accepted c.args.name.now c.param_first.ensures c.in-Some.is in
    there.inside

pub returns-in-Some : goal.returns-in-Some
returns-in-Some c =
    let there = sought c.args.s.now c.args.name_end c.requires.accepted c.args.name.now c.param_first.ensures c.in-Some.is in
    let a = c.args in
    c.same_name.ensures ∙ says_some a.text.now a.missing (first_value a.name.now a.s.now) _ there.octets
