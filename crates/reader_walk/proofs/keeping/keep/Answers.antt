-- `reader_walk::keeping::keep` meets its contract. Assumes nothing.
use native.Mathlib.Omega.{arith}
use Rattle.reader_walk.proofs.ScratchLaws.{put_behind}
use Rattle.reader_walk.proofs.keeping.keep.Goals as goal

pub returns : goal.returns
returns c =
    let a = c.args in
    put_behind a.scratch.now a.value.now c.copy_in.new.dst a.used (omega arith) c.copy_in.ensures
