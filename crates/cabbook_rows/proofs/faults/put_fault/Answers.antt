-- `cabbook_rows::faults::put_fault` meets its contract. Assumes nothing.
use Rattle.numbers.specs.declared.refusal.Reason.TheVariants.{Name, Parameter, Quote}
use Rattle.numbers.proofs.Reasons.{other_reason}
use Rattle.cabbook_rows.specs.Faults.{fault_words}
use Rattle.cabbook_rows.proofs.faults.put_fault.Goals as goal

pub returns-in_default : goal.returns-in_default
unfolding fault_words
returns-in_default c =
    let r = c.args.reason in
    let d = c.in_default in
    rw (other_reason r Name d.not-Name, other_reason r Parameter d.not-Parameter, other_reason r Quote d.not-Quote, ← c.at_fault-w.ensures) c.put_colon.ensures
