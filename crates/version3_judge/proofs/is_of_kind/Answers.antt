-- src/lib.rt:151:9
use mathlib.Core.Path.{sym, ap, ◌∙◌}
use Rattle.version3_judge.specs.Judge.{is_fit, of_kind}
use Rattle.version3_judge.proofs.is_of_kind.Goals as goal

-- src/lib.rt:146:1
pub returns-in-Fits : goal.returns-in-Fits
unfolding of_kind
returns-in-Fits c = sym (ap is_fit (sym c.value_fault-fault.ensures ∙ c.in-Fits.is))

-- src/lib.rt:146:1
pub returns-in-Breaks : goal.returns-in-Breaks
unfolding of_kind
returns-in-Breaks c = sym (ap is_fit (sym c.value_fault-fault.ensures ∙ c.in-Breaks.is))
