-- `report_weights::refusal_at` meets its contract. Assumes nothing.
use mathlib.Core.Path.{refl}
use Rattle.report_weights.specs.Counts.{refusal_at}
use Rattle.report_weights.proofs.refusal_at.Goals as goal

pub returns : goal.returns
unfolding refusal_at
returns c = refl
