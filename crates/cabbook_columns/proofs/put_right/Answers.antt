-- `cabbook_columns::put_right` meets its contract. Assumes nothing.
use mathlib.Core.Path.{ap, ◌∙◌}
use mathlib.Core.List.{List, ◌++◌}
use Prim.Native.Nat.{ℕ, ◌-◌}
use lib.ListN.{length, replicate}
use Rattle.program_output.specs.Pages.{page, added}
use Rattle.program_output.proofs.PageLaws.{then}
use Rattle.cabbook_columns.proofs.put_right.Goals as goal

pub returns : goal.returns
returns c =
    let a = c.args in
    let p = page a.at a.room.now in
    let e = c.decimal-k.ensures in
    then _ _ p c.put_gap-gap_end.ensures c.put_all.ensures
    ∙ ap (λ (l : List ℕ). added (replicate (a.width - length l) 32 ++ l) p) e.value
