-- `cabbook_reasons::put_version` meets its contract. Assumes nothing.
use Rattle.cabbook_reasons.specs.Reasons.{version_words}
use Rattle.cabbook_reasons.proofs.put_version.Goals as goal

pub returns : goal.returns
unfolding version_words
returns c = rw (← c.find_mark.ensures) c.put_found.ensures
