-- `cabbook_version3::reasons::put_raw` is safe. Assumes nothing.
use native.Mathlib.Omega.{arith}
use lib.ListN.{length-replicate}
use Rattle.line_folds.proofs.FoldLaws.{unfold_shorter}
use Rattle.cabbook_version3.proofs.reasons.put_raw.Goals as goal

pub unfold-n-requires : goal.unfold-n-requires
unfold-n-requires c = simp length-replicate (omega (arith, unfold_shorter c.args.raw.now))
