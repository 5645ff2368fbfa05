-- `reader::copy_over` meets its contract. Assumes nothing.
use native.Mathlib.Omega.{arith}
use Rattle.line_folds.proofs.FoldLaws.{unfold_shorter}
use Rattle.reader.proofs.copy_over.Goals as goal

pub returns-then-input-room : goal.returns-then-input-room
returns-then-input-room c = omega (arith, unfold_shorter c.args.input.now)
