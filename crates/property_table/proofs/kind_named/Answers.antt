-- `property_table::kind_named` meets its contract. Assumes nothing.
use mathlib.Core.Path.{sym, ◌∙◌}
use native.Mathlib.Omega.{arith}
use Rattle.octets.specs.Ascii.{octets}
use Rattle.property_table.specs.Rows.{kind_named}
use Rattle.property_table.proofs.kind_named.Goals as goal

pub returns-then-same_name : goal.returns-then-same_name
unfolding kind_named octets
returns-then-same_name c = record { value = rw (sym c.same_name.ensures ∙ c.if-same_name.true); upper_bound = omega arith }

pub returns-then-same_name-2 : goal.returns-then-same_name-2
unfolding kind_named octets
returns-then-same_name-2 c = record { value = rw (sym c.same_name.ensures ∙ c.if-same_name.false, sym c.same_name-2.ensures ∙ c.if-same_name-2.true); upper_bound = omega arith }

pub returns : goal.returns
unfolding kind_named octets
returns c = record { value = rw (sym c.same_name.ensures ∙ c.if-same_name.false, sym c.same_name-2.ensures ∙ c.if-same_name-2.false); upper_bound = omega arith }
