-- `console_parts::put_numbers` meets its contract. Assumes nothing.
use Prim.Native.Nat.{◌/◌}
use mathlib.Core.Path.{refl}
use borrow.Author.Rules.{rules}
use native.Mathlib.Omega.{arith}
use lib.ListN.{length}
use Rattle.console_parts.proofs.PartLaws.{put_step, put_done}
use Rattle.console_parts.proofs.put_numbers.Goals as goal

pub loop-i-init : goal.loop-i-init
loop-i-init c = (refl, refl)

pub overflow_mul-i : goal.overflow_mul-i
overflow_mul-i c = omega arith

pub number_at-requires : goal.number_at-requires
number_at-requires c = omega arith

pub bounds-out-i : goal.bounds-out-i
bounds-out-i c = omega (arith, c.loop-i.invariant.0)

pub loop-i-preserved : goal.loop-i-preserved
loop-i-preserved c = (search rules, put_step c.args.s.now c.args.out.now c.loop-i.out (length c.args.s.now / 4) c.loop-i.i c.loop-i.invariant.1 (omega arith) (omega arith) c.number_at.result c.number_at.ensures)

pub shape_of-out : goal.shape_of-out
shape_of-out c = c.loop-i.invariant.0

pub returns : goal.returns
returns c = put_done c.args.s.now c.args.out.now c.loop-i.out (length c.args.s.now / 4) c.loop-i.i c.loop-i.invariant.1 (omega arith) (omega arith)
