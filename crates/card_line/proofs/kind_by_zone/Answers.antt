-- `card_line::kind_by_zone` meets its contract. Assumes nothing.
use mathlib.Core.Path.{sym, ◌∙◌}
use Rattle.octets.specs.Ascii.{octets}
use Rattle.property_table.specs.Rows.{zone_kind}
use Rattle.card_line.proofs.kind_by_zone.Goals as goal

pub returns-then-param_says : goal.returns-then-param_says
unfolding zone_kind octets
returns-then-param_says c = rw (sym c.param_says.ensures ∙ c.if-param_says.true)

pub returns : goal.returns
unfolding zone_kind octets
returns c = c.kind_by_value.ensures ∙ sym (rw (sym c.param_says.ensures ∙ c.if-param_says.false))
