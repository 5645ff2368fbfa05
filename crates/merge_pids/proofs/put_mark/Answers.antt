-- `merge_pids::put_mark` meets its contract. Assumes nothing.
use Prim.Native.Nat.{◌-◌}
use native.Mathlib.Omega.{arith}
use lib.ListN.{length, length-set}
use borrow.Author.Tests.{lt-ltb, le-ltb}
use Rattle.merge_pids.specs.Marks.{put_mark}
use Rattle.merge_pids.proofs.put_mark.Goals as goal

pub returns-then-out-lt-MARK : goal.returns-then-out-lt-MARK
unfolding put_mark
returns-then-out-lt-MARK c = rw (lt-ltb (length c.args.out.now) 3 c.if-out-lt-MARK.true)

pub returns-then-out-at : goal.returns-then-out-at
unfolding put_mark
returns-then-out-at c = rw (le-ltb (length c.args.out.now) 3 c.if-out-lt-MARK.false, lt-ltb (length c.args.out.now - 3) c.args.at c.if-out-at.true)

pub bounds-out-at-2 : goal.bounds-out-at-2
bounds-out-at-2 c = simp length-set (omega (arith, c.if-out-lt-MARK.false, c.if-out-at.false))

pub bounds-out-at-3 : goal.bounds-out-at-3
bounds-out-at-3 c = simp length-set (omega (arith, c.if-out-lt-MARK.false, c.if-out-at.false))

pub returns : goal.returns
unfolding put_mark
returns c = rw (le-ltb (length c.args.out.now) 3 c.if-out-lt-MARK.false, le-ltb (length c.args.out.now - 3) c.args.at c.if-out-at.false)
