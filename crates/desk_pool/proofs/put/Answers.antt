-- `desk_pool::put` meets its contract. Assumes nothing.
use Prim.Native.Nat.{◌+◌, ◌*◌}
use native.Mathlib.Omega.{arith}
use Rattle.desk_pool.proofs.Patches.{put_copied}
use Rattle.desk_pool.proofs.put.Goals as goal

pub overflow_mul-from : goal.overflow_mul-from
overflow_mul-from c = omega arith

pub overflow_add-from : goal.overflow_add-from
overflow_add-from c = omega arith

pub slice_bounds-copy_in-count : goal.slice_bounds-copy_in-count
slice_bounds-copy_in-count c = omega arith

pub slice_bounds-copy_in-start : goal.slice_bounds-copy_in-start
slice_bounds-copy_in-start c = omega arith

pub returns : goal.returns
returns c =
    let a = c.args in
    put_copied a.pool.now a.chunk.now c.copy_in.new.dst (a.slot * 16384 + a.held) (omega arith) c.copy_in.ensures
