-- `merge::put_partner` meets its contract. Assumes nothing.
use borrow.Author.Tests.{eq-eqb, ne_eqb, lt-ltb, le-ltb}
use Prim.Native.Nat.{◌-◌}
use native.Mathlib.Omega.{arith}
use lib.ListN.{length, length-set}
use Rattle.merge.specs.Plans.{put_partner}
use Rattle.merge.proofs.put_partner.Goals as goal

pub returns-then-partner-eq0 : goal.returns-then-partner-eq0
unfolding put_partner
returns-then-partner-eq0 c = rw (eq-eqb c.args.partner 0 c.if-partner-eq0.true)

pub returns-then-out-lt-PAIR : goal.returns-then-out-lt-PAIR
unfolding put_partner
returns-then-out-lt-PAIR c = rw (ne_eqb c.args.partner 0 c.if-partner-eq0.false, lt-ltb (length c.args.out.now) 2 c.if-out-lt-PAIR.true)

pub returns-then-out-at : goal.returns-then-out-at
unfolding put_partner
returns-then-out-at c = rw (ne_eqb c.args.partner 0 c.if-partner-eq0.false, le-ltb (length c.args.out.now) 2 c.if-out-lt-PAIR.false, lt-ltb (length c.args.out.now - 2) c.args.at c.if-out-at.true)

pub bounds-out-at-2 : goal.bounds-out-at-2
bounds-out-at-2 c = simp length-set (omega (arith, c.if-out-lt-PAIR.false, c.if-out-at.false))

pub returns : goal.returns
unfolding put_partner
returns c = rw (ne_eqb c.args.partner 0 c.if-partner-eq0.false, le-ltb (length c.args.out.now) 2 c.if-out-lt-PAIR.false, le-ltb (length c.args.out.now - 2) c.args.at c.if-out-at.false)
