-- `crate::text::stands` meets its contract. Assumes nothing.
use mathlib.Core.Path.{ap, ◌∙◌}
use borrow.Author.Tests.{leb-true}
use Rattle.folder_line.specs.Pieces.{folded}
use Rattle.folder.proofs.RunLaws.{short_stands}
use Rattle.folder.proofs.text.stands.Goals as goal

pub returns : goal.returns
returns c =
    let u = c.requires.s_value c.if-folds.false in
    λ e. ap folded u ∙ short_stands _ (rw u at c.requires.clean) (leb-true _ _ e)
