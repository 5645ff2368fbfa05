-- `folder_line::standing::is_cut` meets its contract. Assumes nothing.
use mathlib.Core.List.{[], ◌∷◌}
use native.Mathlib.Omega.{arith}
use Rattle.folder_line.proofs.FullLaws.{starts_at}
use Rattle.folder_line.proofs.standing.is_cut.Goals as goal

pub returns-then-next-ne13-clause-i_in_bounds : goal.returns-then-next-ne13-clause-i_in_bounds
returns-then-next-ne13-clause-i_in_bounds c =
    let a = c.args in
    λ _. (omega arith, starts_at (13 ∷ 10 ∷ 32 ∷ []) a.s.now a.i _ c.starts_with.ensures.value c.if-next-ne13.true.0)
