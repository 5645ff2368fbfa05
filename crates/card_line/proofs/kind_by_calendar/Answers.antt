-- `card_line::kind_by_calendar` meets its contract. Assumes nothing.
use mathlib.Core.Path.{sym, ◌∙◌}
use Rattle.octets.specs.Ascii.{octets}
use Rattle.property_table.specs.Rows.{date_kind}
use Rattle.card_line.proofs.kind_by_calendar.Goals as goal

pub returns-then-param_says : goal.returns-then-param_says
unfolding date_kind octets
returns-then-param_says c = rw (sym c.param_says.ensures ∙ c.if-param_says.true)

pub returns-then-param_says-2 : goal.returns-then-param_says-2
unfolding date_kind octets
returns-then-param_says-2 c = rw (sym c.param_says.ensures ∙ c.if-param_says.false, sym c.param_says-2.ensures ∙ c.if-param_says-2.true)

pub returns : goal.returns
unfolding date_kind octets
returns c = rw (sym c.param_says.ensures ∙ c.if-param_says.false, sym c.param_says-2.ensures ∙ c.if-param_says-2.false)
