-- `cabbook_rows::under::put_cut` meets its contract. Assumes nothing.
use mathlib.Core.Path.{ap, ◌∙◌}
use mathlib.Core.List.{List}
use Prim.Native.Nat.{ℕ}
use Rattle.octets.specs.Ascii.{octets}
use Rattle.octets.specs.Slices.{part}
use Rattle.program_output.specs.Pages.{page, added}
use Rattle.program_output.proofs.PageLaws.{nothing, piece}
use Rattle.program_visible.specs.Visible.{visible}
use Rattle.cabbook_rows.proofs.under.put_cut.Goals as goal

pub returns : goal.returns
unfolding octets
returns c =
    let a = c.args in
    let p = page a.at a.room.now in
    rw (← c.character_start-end.ensures.0)
    (piece _ (piece (visible (part a.text.now 0 c.character_start-end.result)) (nothing p) (c.put_visible-text_end.ensures ∙ ap (λ (t : List ℕ). added (visible t) p) c.part.ensures)) c.put_unless.ensures).sum
