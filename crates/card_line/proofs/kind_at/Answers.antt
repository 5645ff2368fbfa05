-- `card_line::kind_at` meets its contract. Assumes nothing.
use mathlib.Core.Path.{sym, ◌∙◌}
use borrow.Author.Tests.{ne_eqb}
use Rattle.property_table.specs.Rows.{rule_at, line_kind, value_name, calscale_name}
use Rattle.card_line.proofs.PartLaws.{own_kind}
use Rattle.card_line.proofs.kind_at.Goals as goal

pub returns-then-param_count-eq0 : goal.returns-then-param_count-eq0
returns-then-param_count-eq0 c =
    let none = c.requires.s_value c.if-param_count-eq0.true in
    c.kind_of-own.ensures.value ∙ own_kind c.args.row _ _ c.requires.row_lt_all (none value_name) (none calscale_name)

pub returns-in-0 : goal.returns-in-0
unfolding line_kind
returns-in-0 c = c.kind_of-own.ensures.value ∙ sym (rw (sym c.rule_of.ensures ∙ c.in-0.is))

pub returns-in-1 : goal.returns-in-1
unfolding line_kind
returns-in-1 c = c.kind_by_value.ensures ∙ sym (rw (sym c.rule_of.ensures ∙ c.in-1.is, c.kind_of-own.ensures.value))

pub returns-in-2 : goal.returns-in-2
unfolding line_kind
returns-in-2 c = c.kind_by_calendar.ensures ∙ sym (rw (sym c.rule_of.ensures ∙ c.in-2.is))

pub returns-in_default : goal.returns-in_default
unfolding line_kind
returns-in_default c =
    let o = c.in_default.in_default-own.rest in
    let e = c.rule_of.ensures in
    let n = rule_at c.args.row in
    c.kind_by_zone.ensures ∙ sym (rw (ne_eqb n 0 (λ q. o.0.0.1 (e ∙ q)), ne_eqb n 1 (λ q. o.0.1 (e ∙ q)), ne_eqb n 2 (λ q. o.1 (e ∙ q))))
