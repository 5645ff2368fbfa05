-- `desk_pool::clear` meets its contract. Assumes nothing.
use Prim.Native.Nat.{◌*◌}
use native.Mathlib.Omega.{arith}
use Rattle.desk_pool.specs.Pools.{zeros}
use Rattle.desk_pool.proofs.Patches.{put_zeroed, zeros_are}
use Rattle.desk_pool.proofs.clear.Goals as goal

pub overflow_mul-first : goal.overflow_mul-first
overflow_mul-first c = omega arith

pub overflow_add-past : goal.overflow_add-past
overflow_add-past c = omega arith

pub slice_bounds-zero-count : goal.slice_bounds-zero-count
slice_bounds-zero-count c = omega arith

pub slice_bounds-zero-start : goal.slice_bounds-zero-start
slice_bounds-zero-start c = omega arith

pub slice_bounds-zero-end : goal.slice_bounds-zero-end
slice_bounds-zero-end c = omega arith

pub returns : goal.returns
returns c =
    let a = c.args in
    put_zeroed a.pool.now c.zero.new.dst (a.slot * 16384) 16384 (omega arith) c.zero.ensures zeros zeros_are
