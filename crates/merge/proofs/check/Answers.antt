-- `merge::check` meets its contract. Assumes nothing.
use Rattle.std.proofs.Common.{ap, ◌∙◌}
use Rattle.merge_sources.specs.Row.{row_of}
use Rattle.merge_sources.specs.declared.Row.{Row}
use Rattle.merge.specs.Outcome.{check_rows, check_outcome}
use Rattle.merge.proofs.check.Goals as goal

pub returns : goal.returns
unfolding check_outcome
returns c =
    let a = c.args in
    c.check_rows.ensures
    ∙ ap (λ (r : Row). check_rows a.first.now a.second.now r c.row_of-b.result a.plan.now) c.row_of-a.ensures
    ∙ ap (λ (r : Row). check_rows a.first.now a.second.now (row_of a.m.now) r a.plan.now) c.row_of-b.ensures
