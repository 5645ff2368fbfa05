-- `version3_parameters::is_one` meets its contract. Assumes nothing.
use mathlib.Core.Path.{sym, ap, ◌∙◌}
use Rattle.std.specs.Cmp.Lexicographic.{same_text, other_text}
use Rattle.version3_parameters.specs.Places.{one_written}
use Rattle.version3_parameters.proofs.OneLaws.{one_quoted}
use Rattle.version3_parameters.proofs.is_one.Goals as goal

pub returns-then-eq : goal.returns-then-eq
unfolding one_written
returns-then-eq c = c.if-eq.true ∙ sym (ap one_written (same_text c.args.values.now _ c.if-eq.ensures))

pub returns-else-eq : goal.returns-else-eq
returns-else-eq c = c.eq-else-eq.ensures ∙ one_quoted c.args.values.now (other_text c.args.values.now _ c.if-eq.ensures)
