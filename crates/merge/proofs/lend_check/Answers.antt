-- `merge::lend_check` meets its contract. Assumes nothing.
use mathlib.Core.Path.{ap, ◌∙◌}
use Prim.Native.Nat.{min}
use lib.ListN.{take}
use Rattle.merge_sources.specs.Row.{row_of}
use Rattle.merge_sources.specs.declared.Row.{Row}
use Rattle.merge.specs.Outcome.{check_rows, check_outcome}
use Rattle.merge.proofs.lend_check.Goals as goal

pub returns : goal.returns
unfolding check_outcome
returns c =
    let a = c.args in
    c.check_rows.ensures
    ∙ ap (λ (r : Row). check_rows a.first.now a.second.now r c.lend_row-y.result a.plan.now) c.lend_row-x.ensures
    ∙ ap (λ (r : Row). check_rows a.first.now a.second.now (row_of (take (min a.k 17) a.a)) r a.plan.now) c.lend_row-y.ensures
