-- `merge_sides::same_octets` meets its contract. Assumes nothing.
use Rattle.std.proofs.Common.{◌∙◌}
use Rattle.merge_sides.proofs.Walks.{octets_compared}
use Rattle.merge_sides.proofs.same_octets.Goals as goal

pub returns : goal.returns
returns c = c.eq.ensures ∙ octets_compared c.args.a.now c.args.b.now
