-- `crate::text::fold_text` meets its contract. Assumes nothing.
use mathlib.Core.Path.{refl, ap, ◌∙◌}
use mathlib.Core.List.{List, map}
use Prim.Native.Nat.{ℕ, ◌≤◌}
use native.Mathlib.Omega.{arith}
use lib.ListN.{length}
use Rattle.octets.specs.Room.{filled}
use Rattle.octets.specs.Room.{Written}
use Rattle.line_folds.specs.Logical.{logical_lines}
use Rattle.octets.proofs.RoomLaws.{fill_fits, within_bound}
use Rattle.folder_line.specs.Pieces.{folded_lines}
use Rattle.folder_raising.specs.Walk.{written}
use Rattle.folder_raising.proofs.Kept.{styled_lines}
use Rattle.folder.proofs.BoundLaws.{text_most}
use Rattle.folder.proofs.text.fold_text.Goals as goal

pub returns-then-is_roomy : goal.returns-then-is_roomy
returns-then-is_roomy c =
    let a = c.args in
    let xs : List ℕ = folded_lines (map (written a.style) (logical_lines a.s.now)) in
    let r = c.pour in
    let p = c.is_roomy.ensures c.if-is_roomy.true in
    let n : length xs ≤ length a.out.now = omega (arith, styled_lines a.style (logical_lines a.s.now), text_most a.s.now, p.0) in
    let f = r.ensures.fits n in
    ap (λ (v : Written). filled v r.new.d) f.0
    ∙ fill_fits xs a.out.now (length xs) refl n _ f.1
    ∙ within_bound xs a.out.now (length xs) refl (omega (arith, styled_lines a.style (logical_lines a.s.now), text_most a.s.now, p.1))
