-- `crate::text::put_line` meets its contract. Assumes nothing.
use native.Mathlib.Omega.{arith}
use Rattle.folder_raising.proofs.Kept.{styled_folded}
use Rattle.folder.proofs.FitLaws.{placed, too_long}
use Rattle.folder.proofs.TextLaws.{raise_written}
use Rattle.folder.proofs.text.put_line.Goals as goal

pub returns-then-d-n : goal.returns-then-d-n
returns-then-d-n c =
    let a = c.args in
    let m = c.measure-n in
    (too_long _ _ _ m.result c.if-d-n.true (omega (arith, m.ensures.0, styled_folded a.style a.s.now)), m.ensures.1)

pub returns-in-Raised : goal.returns-in-Raised
returns-in-Raised c =
    let a = c.args in
    let m = c.measure-n in
    let f = c.fold_line in
    let w = raise_written a.s.now a.d.now _ _ m.result m.ensures.0 f.ensures.1 c.raise_start.ensures in
    (rw c.in-Raised.is (placed _ _ _ m.result w.0 (omega arith) w.1), m.ensures.1)
