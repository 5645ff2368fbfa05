-- `program_files::fetch` meets its contract. Assumes nothing.
use native.Mathlib.Omega.{arith}
use Rattle.program_files.proofs.Rooms.{filled_on, filled_end}
use Rattle.program_files.proofs.fetch.Goals as goal

pub returns-then-more-eq0 : goal.returns-then-more-eq0
returns-then-more-eq0 c =
    let l = c.loop-n in
    let f = c.in-Some.ensures in
    filled_end c.args.room.now l.room c.read_once.new.room l.n _ (omega arith) l.invariant f (omega arith)

pub overflow_add-n : goal.overflow_add-n
overflow_add-n c =
    let l = c.loop-n in
    let f = c.in-Some.ensures in
    let g = filled_on c.args.room.now l.room c.read_once.new.room l.n _ (omega arith) l.invariant f in
    omega (arith, g.0, g.1, l.invariant.1)

pub loop-n-smaller : goal.loop-n-smaller
loop-n-smaller c =
    let l = c.loop-n in
    let f = c.in-Some.ensures in
    let g = filled_on c.args.room.now l.room c.read_once.new.room l.n _ (omega arith) l.invariant f in
    omega (arith, g.0, g.1, l.invariant.1)

pub loop-n-preserved : goal.loop-n-preserved
loop-n-preserved c =
    let l = c.loop-n in
    let f = c.in-Some.ensures in
    filled_on c.args.room.now l.room c.read_once.new.room l.n _ (omega arith) l.invariant f
