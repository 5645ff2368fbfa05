-- `line_unfolding::skip` meets its contract. Assumes nothing.
use Rattle.line_unfolding.proofs.skip.Goals as goal

pub returns-then-many : goal.returns-then-many
returns-then-many c = c.skip_lines.ensures

pub returns : goal.returns
returns c = c.skip_to_fold.ensures
