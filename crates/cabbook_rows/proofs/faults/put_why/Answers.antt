-- `cabbook_rows::faults::put_why` meets its contract. Assumes nothing.
use mathlib.Core.Path.{sym, ◌∙◌}
use Rattle.numbers.specs.declared.refusal.Reason.TheVariants.{Value}
use Rattle.numbers.proofs.Reasons.{other_reason}
use Rattle.cabbook_rows.proofs.faults.put_why.Goals as goal

pub returns-in_default : goal.returns-in_default
returns-in_default c = rw (sym c.is_fault.ensures ∙ c.if-is_fault.false, other_reason c.args.r.0 Value c.in_default.not-Value) c.put_reason.ensures
