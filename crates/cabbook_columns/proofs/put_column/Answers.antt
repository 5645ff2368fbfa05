-- `cabbook_columns::put_column` meets its contract. Assumes nothing.
use mathlib.Core.Path.{ap, ◌∙◌}
use mathlib.Core.List.{[], ◌∷◌, ◌++◌}
use Prim.Native.Nat.{ℕ}
use lib.ListN.{replicate}
use Rattle.program_output.specs.Pages.{page, added}
use Rattle.program_output.proofs.PageLaws.{then}
use Rattle.program_visible.specs.Visible.{visible}
use Rattle.cabbook_columns.proofs.put_column.Goals as goal

pub returns : goal.returns
returns c =
    let a = c.args in
    let p = page a.at a.room.now in
    then _ _ p (then _ _ p c.put_visible-text_end.ensures c.put_spaces-gap_end.ensures) c.put_spaces.ensures
    ∙ ap (λ (n : ℕ). added (visible a.text.now ++ replicate n 32 ++ (32 ∷ [])) p) c.spare.ensures
