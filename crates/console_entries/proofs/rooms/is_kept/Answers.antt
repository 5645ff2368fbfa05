-- `console_entries::rooms::is_kept` meets its contract. Assumes nothing.
use mathlib.Core.Path.{refl}
use native.Mathlib.Omega.{arith}
use Rattle.console_entries.specs.Rooms.{octet_fill}
use Rattle.console_entries.proofs.Kept.{all_next, all_not, all_end}
use Rattle.console_entries.proofs.rooms.is_kept.Goals as goal

pub loop-i-init : goal.loop-i-init
loop-i-init c = refl

pub bounds-room-i : goal.bounds-room-i
bounds-room-i c = omega arith

pub returns-then-room-i : goal.returns-then-room-i
returns-then-room-i c =
    let a = c.args in
    all_not octet_fill a.room.now a.from c.loop-i.i c.loop-i.invariant (omega arith) c.if-room-i.true

pub overflow_add-i : goal.overflow_add-i
overflow_add-i c = omega arith

pub loop-i-smaller : goal.loop-i-smaller
loop-i-smaller c = omega arith

pub loop-i-preserved : goal.loop-i-preserved
loop-i-preserved c =
    let a = c.args in
    all_next octet_fill a.room.now a.from c.loop-i.i c.loop-i.invariant (omega arith) c.if-room-i.false

pub returns : goal.returns
returns c =
    let a = c.args in
    all_end octet_fill a.room.now a.from c.loop-i.i c.loop-i.invariant (omega arith)
