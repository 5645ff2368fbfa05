-- `merge_sides::narrow` meets its contract. Assumes nothing.
use Rattle.std.proofs.Common.{◌∙◌}
use Rattle.merge_sides.proofs.Walks.{saturated}
use Rattle.merge_sides.proofs.narrow.Goals as goal

pub returns : goal.returns
returns c = c.unwrap_or.ensures ∙ saturated c.try_from.result c.args.n c.try_from.ensures
