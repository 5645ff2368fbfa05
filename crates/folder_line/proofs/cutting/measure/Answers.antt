-- `folder_line::cutting::measure` meets its contract. Assumes nothing.
use Prim.Native.Nat.{◌≤◌}
use native.Mathlib.Omega.{arith}
use Rattle.folder_line.specs.Pieces.{pieces, folded}
use Rattle.folder_line.proofs.Turns.{turn_fits, turn_clean, turn_length, last_length}
use Rattle.folder_line.proofs.cutting.measure.Goals as goal

pub loop-room-smaller : goal.loop-room-smaller
loop-room-smaller c =
    let l = c.loop-room in
    let f = turn_fits c.args.s.now l.a l.room c.cut-a.result l.invariant.1 (omega arith) c.loop-room-test.true c.cut-a.ensures in
    omega arith

pub loop-room-preserved : goal.loop-room-preserved
loop-room-preserved c =
    let s = c.args.s.now in
    let f = turn_fits s c.loop-room.a c.loop-room.room c.cut-a.result c.loop-room.invariant.1 (omega arith) c.loop-room-test.true c.cut-a.ensures in
    let g : 4 ≤ c.loop-room.room = omega arith in
    let t = turn_length s c.loop-room.a c.loop-room.room c.cut-a.result c.loop-room.invariant.1 g c.loop-room-test.true c.cut-a.ensures in
    (omega arith, turn_clean s c.loop-room.a c.loop-room.room c.cut-a.result c.loop-room.invariant.1 g c.loop-room-test.true c.cut-a.ensures, omega arith, omega arith, omega arith, omega arith)

pub returns : goal.returns
unfolding folded pieces
returns c =
    let t = last_length c.args.s.now c.loop-room.a c.loop-room.room c.loop-room.invariant.1 (omega arith) in
    (omega arith, omega arith)
