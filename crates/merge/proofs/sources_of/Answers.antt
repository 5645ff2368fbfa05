-- `merge::sources_of` meets its contract. Assumes nothing.
use mathlib.Core.Path.{sym, ap, refl, ◌∙◌}
use Rattle.reader.specs.Outcome.{verdict}
use Rattle.merge.specs.Sides.{read_of}
use Rattle.merge.proofs.OutcomeLaws.{row_none, row_own}
use Rattle.merge.proofs.sources_of.Goals as goal

pub returns-in_default : goal.returns-in_default
unfolding read_of
returns-in_default c = c.empty.ensures ∙ sym (row_none c.args.card.now _ _ _ c.read.ensures _ _ (ap verdict c.in_default.is))

pub returns : goal.returns
unfolding read_of
returns c = c.own_row.ensures ∙ sym (row_own c.args.card.now _ _ _ c.in-Ok.ensures _ _ refl)
