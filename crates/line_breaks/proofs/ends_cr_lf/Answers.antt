-- `line_breaks::ends_cr_lf` meets its contract. Assumes nothing.
use mathlib.Core.Path.{◌∙◌}
use Rattle.line_breaks.proofs.EndLaws.{ends_is}
use Rattle.line_breaks.proofs.ends_cr_lf.Goals as goal

pub returns : goal.returns
returns c = c.ends_with.ensures.value ∙ ends_is c.args.s.now
