-- `cabbook_morning::depot::count_reclaimed` meets its contract. Assumes nothing.
use Rattle.numbers.specs.declared.refusal.Reason.TheVariants.{NotOpen}
use Rattle.numbers.proofs.Reasons.{other_reason}
use Rattle.cabbook_morning.proofs.depot.count_reclaimed.Goals as goal

pub returns-in_default : goal.returns-in_default
returns-in_default c = rw (other_reason c.args.reason NotOpen c.in_default.not-NotOpen)
