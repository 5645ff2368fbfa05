-- `line_breaks::first_lone` meets its contract. Assumes nothing.
use mathlib.Core.Path.{sym}
use Rattle.line_breaks.proofs.EndLaws.{paired_all}
use Rattle.line_breaks.proofs.first_lone.Goals as goal

pub returns-then-all_paired : goal.returns-then-all_paired
returns-then-all_paired c = sym (paired_all c.args.s.now (c.all_paired.ensures c.if-all_paired.true))
