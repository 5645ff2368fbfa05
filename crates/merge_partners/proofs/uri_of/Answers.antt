-- `merge_partners::uri_of` meets its contract. Assumes nothing.
use mathlib.Core.Path.{◌∙◌}
use native.Mathlib.Omega.{arith}
use Rattle.merge_sides.proofs.Walks.{part_at, sum_at}
use Rattle.merge_partners.specs.Keys.{uri_of}
use Rattle.merge_partners.proofs.uri_of.Goals as goal

pub overflow_add-end : goal.overflow_add-end
overflow_add-end c = omega (arith, c.wide_number-place.ensures.1, c.wide_number.ensures.1)

pub returns : goal.returns
unfolding uri_of
returns c = c.part.ensures ∙ part_at c.args.c.now c.wide_number-place.ensures.0 (sum_at c.wide_number-place.ensures.0 c.wide_number.ensures.0)
