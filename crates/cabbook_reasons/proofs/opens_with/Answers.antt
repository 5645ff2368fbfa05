-- `cabbook_reasons::opens_with` meets its contract. Assumes nothing.
use Rattle.cabbook_reasons.specs.Reasons.{opening}
use Rattle.cabbook_reasons.proofs.opens_with.Goals as goal

pub returns : goal.returns
unfolding opening
returns c = rw (← c.part-rest.ensures, ← c.part.ensures) c.same_name.ensures
