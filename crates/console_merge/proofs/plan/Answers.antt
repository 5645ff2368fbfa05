-- `console_merge::plan` meets its contract. Assumes nothing.
use mathlib.Core.Path.{◌∙◌}
use Rattle.console_merge.proofs.MergeLaws.{plan_of_lem}
use Rattle.console_merge.proofs.plan.Goals as goal

pub returns : goal.returns
returns c =
    let a = c.args in
    c.lend_plan.ensures
    ∙ plan_of_lem a.s.now c.part_of.result.now c.part_of-2.result.now c.part_of-one.result.now c.part_of-other.result.now c.entries_of.result c.entries_of-2.result c.part_of.ensures.result_value c.part_of-2.ensures.result_value c.part_of-one.ensures.result_value c.part_of-other.ensures.result_value c.entries_of.ensures c.entries_of-2.ensures a.room.now
