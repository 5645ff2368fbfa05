-- `folder_line::folding::put_cut` meets its contract. Assumes nothing.
use mathlib.Core.Path.{ap, ◌∙◌}
use mathlib.Core.List.{List}
use Prim.Native.Nat.{ℕ}
use native.Mathlib.Omega.{arith}
use lib.ListN.{set}
use Rattle.folder_line.proofs.Puts.{fold_mark}
use Rattle.folder_line.proofs.folding.put_cut.Goals as goal

pub returns : goal.returns
returns c =
    let a = c.args in
    let p = c.put_last-n in
    (omega arith, ap (λ (r : List ℕ). set r p.result 32) p.ensures.1 ∙ fold_mark a.d.now a.s.now p.result p.ensures.0 (omega arith))
