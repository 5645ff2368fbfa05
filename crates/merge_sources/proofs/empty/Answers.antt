-- `empty`: the row of no entries. Assumes nothing.
use mathlib.Core.Path.{refl}
use Rattle.merge_sources.specs.Row.{filled}
use Rattle.merge_sources.proofs.empty.Goals as goal

pub returns : goal.returns
unfolding filled
returns c = refl
