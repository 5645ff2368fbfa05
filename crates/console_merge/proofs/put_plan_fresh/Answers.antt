-- `console_merge::put_plan_fresh` meets its contract. Assumes nothing.
use Rattle.program_output.specs.Pages.{page}
use Rattle.console_merge.proofs.MergeLaws.{plan_part}
use Rattle.console_merge.proofs.put_plan_fresh.Goals as goal

pub returns : goal.returns
returns c =
    let a = c.args in
    plan_part a.s.now 70000 a.n (page a.at a.out.now) c.requires.1 c.put_plan.ensures
