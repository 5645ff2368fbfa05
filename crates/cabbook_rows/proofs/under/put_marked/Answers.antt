-- `cabbook_rows::under::put_marked` meets its contract. Assumes nothing.
use mathlib.Core.Path.{◌∙◌}
use native.Mathlib.Omega.{arith}
use lib.ListN.{length-replicate}
use Rattle.octets.specs.Ascii.{octets}
use Rattle.line_folds.specs.Folds.{unfolded}
use Rattle.line_folds.proofs.FoldLaws.{unfold_shorter}
use Rattle.program_output.specs.Pages.{page}
use Rattle.program_output.proofs.PageLaws.{nothing, piece}
use Rattle.cabbook_rows.specs.Under.{last_part, last_blanks}
use Rattle.cabbook_rows.proofs.PartLaws.{part_front, added_same}
use Rattle.cabbook_rows.proofs.under.put_marked.Goals as goal

pub unfold-n-requires : goal.unfold-n-requires
unfold-n-requires c = simp length-replicate (omega (arith, unfold_shorter c.args.before.now, c.requires.0))

pub returns : goal.returns
unfolding octets
returns c =
    let a = c.args in
    let l = c.part-left.ensures ∙ part_front (unfolded a.before.now) _ _ c.unfold-n.result c.unfold-n.ensures.0 c.unfold-n.ensures.1 in
    (piece _ (piece _ (piece _ (piece _ (piece _ (piece _ (nothing (page a.at a.room.now)) c.put_all-start.ensures) (added_same last_part _ l c.put_last-left_end.ensures)) c.put_rest-line_end.ensures) c.put_all-under.ensures) (added_same last_blanks _ l c.put_last_blanks-caret.ensures)) c.put_all.ensures).sum
