-- `cabbook_rows::under::put_rest` meets its contract. Assumes nothing.
use mathlib.Core.Path.{◌∙◌}
use native.Mathlib.Omega.{arith}
use lib.ListN.{length-replicate}
use Rattle.octets.specs.Ascii.{octets}
use Rattle.line_folds.specs.Folds.{unfolded}
use Rattle.line_folds.proofs.FoldLaws.{unfold_shorter}
use Rattle.program_output.specs.Pages.{page}
use Rattle.program_output.proofs.PageLaws.{nothing, piece}
use Rattle.cabbook_rows.specs.Under.{after_most, cut}
use Rattle.cabbook_rows.proofs.PartLaws.{part_front, added_same}
use Rattle.cabbook_rows.proofs.under.put_rest.Goals as goal

pub unfold-n-requires : goal.unfold-n-requires
unfold-n-requires c = simp length-replicate (omega (arith, unfold_shorter c.args.raw.now))

pub returns : goal.returns
unfolding octets
returns c =
    let a = c.args in
    (piece _ (piece _ (nothing (page a.at a.room.now)) (added_same (cut after_most) _ (c.part.ensures ∙ part_front (unfolded a.raw.now) _ _ c.unfold-n.result c.unfold-n.ensures.0 c.unfold-n.ensures.1) c.put_cut-end.ensures)) c.put_all.ensures).sum
