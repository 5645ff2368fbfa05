-- `reader_walk::lay_behind` meets its contract. Assumes nothing.
use mathlib.Core.Path.{refl, sym}
use Rattle.reader_walk.proofs.ScratchLaws.{behind_none}
use Rattle.reader_walk.proofs.lay_behind.Goals as goal

pub returns : goal.returns
returns c = record { value = rw c.if-folded.false refl; scratch_after = rw c.if-folded.false (sym (behind_none c.args.used c.args.scratch.now)) }
