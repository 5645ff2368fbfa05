-- `version3_judge::is_short` meets its contract. Assumes nothing.
use mathlib.Core.Path.{sym, ◌∙◌}
use Rattle.version3_judge.proofs.JudgeLaws.{short_no, short_on}
use Rattle.version3_judge.proofs.is_short.Goals as goal

pub returns-then-is_of_kind : goal.returns-then-is_of_kind
returns-then-is_of_kind c = short_on 0 c.args.value.now c.args.most c.count_semicolons.result (sym c.is_of_kind.ensures ∙ c.if-is_of_kind.true) c.count_semicolons.ensures.0

pub returns-else-is_of_kind : goal.returns-else-is_of_kind
returns-else-is_of_kind c = c.if-is_of_kind.false ∙ short_no 0 c.args.value.now c.args.most (sym c.is_of_kind.ensures ∙ c.if-is_of_kind.false)
