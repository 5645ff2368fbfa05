-- `crate::text::put_behind` meets its contract. Assumes nothing.
use native.Mathlib.Omega.{arith}
use Rattle.folder.proofs.FitLaws.{behind_run}
use Rattle.folder.proofs.text.put_behind.Goals as goal

pub returns : goal.returns
returns c =
    let a = c.args in
    let r = c.copy_in in
    behind_run a.run.now _ a.d.now _ r.ensures (omega arith) _ _ c.put_logical-n.ensures.0
