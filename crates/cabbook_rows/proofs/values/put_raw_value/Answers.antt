-- `cabbook_rows::values::put_raw_value` meets its contract. Assumes nothing.
use mathlib.Core.Path.{◌∙◌}
use mathlib.Core.List.{List}
use Prim.Native.Nat.{ℕ}
use native.Mathlib.Omega.{arith}
use lib.ListN.{length-replicate}
use Rattle.line_folds.specs.Folds.{unfolded}
use Rattle.line_folds.proofs.FoldLaws.{unfold_shorter}
use Rattle.cabbook_rows.specs.Values.{line_words}
use Rattle.cabbook_rows.proofs.PartLaws.{part_front, added_same}
use Rattle.cabbook_rows.proofs.values.put_raw_value.Goals as goal

pub unfold-n-requires : goal.unfold-n-requires
unfold-n-requires c = simp length-replicate (omega (arith, unfold_shorter c.args.raw.now, c.requires))

pub put_line-requires : goal.put_line-requires
put_line-requires c =
    let a = c.args in
    let r = a.raw.now in
    rw (c.part.ensures ∙ part_front (unfolded r) _ _ c.unfold-n.result c.unfold-n.ensures.0 c.unfold-n.ensures.1) (omega (arith, unfold_shorter r, c.requires))

pub returns : goal.returns
returns c =
    let a = c.args in
    added_same (λ (t : List ℕ). line_words t a.octet) _ (c.part.ensures ∙ part_front (unfolded a.raw.now) _ _ c.unfold-n.result c.unfold-n.ensures.0 c.unfold-n.ensures.1) c.put_line.ensures
