-- `report::Report::take` meets its contract. Assumes nothing.
use mathlib.Core.Path.{sym, ◌∙◌}
use Rattle.report.proofs.StepLaws.{refused_take, counted_take}
use Rattle.report.proofs.Report.take.Goals as goal

pub returns-then-is_over : goal.returns-then-is_over
returns-then-is_over c = refused_take _ _ c.weigh-w.result c.weigh-w.ensures (sym c.is_over.ensures ∙ c.if-is_over.true)

pub add-next-requires : goal.add-next-requires
add-next-requires c = sym c.is_over.ensures ∙ c.if-is_over.false

pub returns : goal.returns
returns c = counted_take _ _ c.weigh-w.result c.weigh-w.ensures (sym c.is_over.ensures ∙ c.if-is_over.false) _ c.add-next.ensures
