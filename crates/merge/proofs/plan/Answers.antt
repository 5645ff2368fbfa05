-- `merge::plan` meets its contract. Assumes nothing.
use Rattle.std.proofs.Common.{ap, ◌∙◌}
use Rattle.merge_sources.specs.Row.{row_of}
use Rattle.merge_sources.specs.declared.Row.{Row}
use Rattle.merge.specs.Outcome.{plan_rows, plan_outcome}
use Rattle.merge.proofs.plan.Goals as goal

pub returns : goal.returns
unfolding plan_outcome
returns c =
    let a = c.args in
    c.plan_rows.ensures
    ∙ ap (λ (r : Row). plan_rows a.first.now a.second.now r c.row_of-b.result a.out.now) c.row_of-a.ensures
    ∙ ap (λ (r : Row). plan_rows a.first.now a.second.now (row_of a.m.now) r a.out.now) c.row_of-b.ensures
