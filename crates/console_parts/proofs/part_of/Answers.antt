-- `console_parts::part_of` meets its contract. Assumes nothing.
use mathlib.Core.Path.{◌∙◌}
use Rattle.console_parts.proofs.PartLaws.{part_law, part_short}
use Rattle.console_parts.proofs.part_of.Goals as goal

pub returns : goal.returns
returns c = record { result_value = c.part.ensures ∙ part_law c.args.s.now c.args.k c.end_of-from.result c.end_of-to.result c.end_of-from.ensures.0 c.end_of-to.ensures.0; result_in_bounds = rw c.part.ensures (part_short c.args.s.now _ _) }
