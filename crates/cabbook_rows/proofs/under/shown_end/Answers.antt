-- `cabbook_rows::under::shown_end` meets its contract. Assumes nothing.
use Rattle.numbers.specs.declared.refusal.Reason.TheVariants.{LoneCrOrLf}
use Rattle.numbers.proofs.Reasons.{other_reason}
use Rattle.cabbook_rows.proofs.under.shown_end.Goals as goal

pub returns-in_default : goal.returns-in_default
returns-in_default c = rw (other_reason c.args.r.0 LoneCrOrLf c.in_default.not-LoneCrOrLf) c.line_end.ensures.0
