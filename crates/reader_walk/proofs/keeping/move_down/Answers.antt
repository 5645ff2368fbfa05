-- `reader_walk::keeping::move_down` meets its contract. Assumes nothing.
use Prim.Native.Nat.{◌-◌}
use native.Mathlib.Omega.{arith}
use Rattle.reader_walk.proofs.ScratchLaws.{move_start, move_turn, move_end}
use Rattle.reader_walk.proofs.keeping.move_down.Goals as goal

pub loop-i-init : goal.loop-i-init
loop-i-init c = (omega arith, move_start c.args.scratch.now c.args.to c.args.from c.args.n c.requires.0 c.requires.1)

pub overflow_add-scratch : goal.overflow_add-scratch
overflow_add-scratch c = omega arith

pub bounds-scratch-from : goal.bounds-scratch-from
bounds-scratch-from c = omega (arith, c.loop-i.invariant.1.same)

pub overflow_add-scratch-in-loop-i : goal.overflow_add-scratch-in-loop-i
overflow_add-scratch-in-loop-i c = omega arith

pub bounds-scratch-to : goal.bounds-scratch-to
bounds-scratch-to c = omega (arith, c.loop-i.invariant.1.same)

pub loop-i-preserved : goal.loop-i-preserved
loop-i-preserved c =
    let l = c.loop-i in
    (omega arith, move_turn c.args.scratch.now c.args.to c.args.from c.args.n c.requires.0 c.requires.1 l.scratch l.i c.loop-i-test.true l.invariant.1)

pub shape_of-scratch : goal.shape_of-scratch
shape_of-scratch c = c.loop-i.invariant.1.same

pub returns : goal.returns
returns c =
    let l = c.loop-i in
    move_end c.args.scratch.now c.args.to c.args.from c.args.n c.requires.0 c.requires.1 l.scratch l.i c.loop-i-test.false l.invariant.0 l.invariant.1
