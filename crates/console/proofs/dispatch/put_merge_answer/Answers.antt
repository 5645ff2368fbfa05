-- `console::dispatch::put_merge_answer` meets its contract. Assumes nothing.
use Rattle.console.specs.Dispatch.{merge_text}
use Rattle.console.proofs.dispatch.put_merge_answer.Goals as goal

pub returns-in-Plan : goal.returns-in-Plan
unfolding merge_text
returns-in-Plan c = rw c.in-Plan.is c.put_plan_answer.ensures

pub returns-in-CheckPlan : goal.returns-in-CheckPlan
unfolding merge_text
returns-in-CheckPlan c = rw c.in-CheckPlan.is c.put_check_answer.ensures
