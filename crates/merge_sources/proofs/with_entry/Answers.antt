-- `with_entry`: a row with another entry at i. Assumes nothing.
use mathlib.Core.Path.{refl}
use Rattle.merge_sources.specs.Row.{put}
use Rattle.merge_sources.proofs.with_entry.Goals as goal

pub returns : goal.returns
unfolding put
returns c = refl
