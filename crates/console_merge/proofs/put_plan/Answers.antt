-- `console_merge::put_plan` meets its contract. Assumes nothing.
use mathlib.Core.Path.{ap, ◌∙◌}
use Rattle.program_output.specs.Pages.{page, added}
use Rattle.merge.specs.Outcome.{Planned}
use Rattle.console_merge.specs.MergeAnswers.{planned_text}
use Rattle.console_merge.proofs.put_plan.Goals as goal

pub returns : goal.returns
unfolding planned_text
returns c =
    let a = c.args in
    c.put_planned.ensures ∙ ap (λ (t : Planned). added (planned_text t) (page a.at a.out.now)) c.plan-p.ensures
