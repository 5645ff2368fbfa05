-- `folder_line::folding::put_last` meets its contract. Assumes nothing.
use mathlib.Core.Path.{refl, ap, ◌∙◌}
use mathlib.Core.List.{List}
use Prim.Native.Nat.{ℕ, ◌+◌}
use native.Mathlib.Omega.{arith}
use lib.ListN.{length, set}
use Rattle.folder_line.proofs.Puts.{end_mark}
use Rattle.folder_line.proofs.folding.put_last.Goals as goal

pub returns : goal.returns
returns c =
    let a = c.args in
    let n = length a.s.now in
    (refl, ap (λ (r : List ℕ). set (set r n 13) (n + 1) 10) c.copy_in.ensures ∙ end_mark a.d.now a.s.now (omega arith))
