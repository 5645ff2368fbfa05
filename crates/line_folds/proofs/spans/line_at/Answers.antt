-- `line_folds::spans::line_at` meets its contract. Assumes nothing.
use mathlib.Core.Path.{◌∙◌}
use Rattle.line_folds.proofs.SpanLaws.{end_from}
use Rattle.line_folds.proofs.spans.line_at.Goals as goal

pub returns : goal.returns
returns c = (c.next_cr-cr.ensures.1, c.line_end.ensures.0 ∙ end_from c.args.s.now c.args.at c.next_cr-cr.result c.next_cr-cr.ensures.1, c.line_end.ensures.1)
