-- `merge::enter` meets its contract. Assumes nothing.
use borrow.Author.Tests.{eq-eqb, ne_eqb, lt-ltb, le-ltb}
use lib.ListN.{get_or}
use Rattle.merge.specs.Plans.{enter_to}
use Rattle.merge.proofs.enter.Goals as goal

pub returns-then-na-i : goal.returns-then-na-i
unfolding enter_to
returns-then-na-i c = rw (le-ltb c.args.i c.args.na c.if-na-i.true)

pub returns-then-nb-j : goal.returns-then-nb-j
unfolding enter_to
returns-then-nb-j c = rw (lt-ltb c.args.i c.args.na c.if-na-i.false, le-ltb c.args.j c.args.nb c.if-nb-j.true)

pub returns-then-i-ge-LINES : goal.returns-then-i-ge-LINES
unfolding enter_to
returns-then-i-ge-LINES c = rw (lt-ltb c.args.i c.args.na c.if-na-i.false, lt-ltb c.args.j c.args.nb c.if-nb-j.false, le-ltb c.args.i 4096 c.if-i-ge-LINES.true)

pub returns-then-j-ge-LINES : goal.returns-then-j-ge-LINES
unfolding enter_to
returns-then-j-ge-LINES c = rw (lt-ltb c.args.i c.args.na c.if-na-i.false, lt-ltb c.args.j c.args.nb c.if-nb-j.false, lt-ltb c.args.i 4096 c.if-i-ge-LINES.false, le-ltb c.args.j 4096 c.if-j-ge-LINES.true)

pub returns-then-p-i-ne0 : goal.returns-then-p-i-ne0
unfolding enter_to
returns-then-p-i-ne0 c = rw (lt-ltb c.args.i c.args.na c.if-na-i.false, lt-ltb c.args.j c.args.nb c.if-nb-j.false, lt-ltb c.args.i 4096 c.if-i-ge-LINES.false, lt-ltb c.args.j 4096 c.if-j-ge-LINES.false, ne_eqb (get_or c.args.p.now c.args.i 0) 0 c.if-p-i-ne0.true)

pub returns-then-t-j-ne0 : goal.returns-then-t-j-ne0
unfolding enter_to
returns-then-t-j-ne0 c = rw (lt-ltb c.args.i c.args.na c.if-na-i.false, lt-ltb c.args.j c.args.nb c.if-nb-j.false, lt-ltb c.args.i 4096 c.if-i-ge-LINES.false, lt-ltb c.args.j 4096 c.if-j-ge-LINES.false, eq-eqb (get_or c.args.p.now c.args.i 0) 0 c.if-p-i-ne0.false, ne_eqb (get_or c.args.t.now c.args.j 0) 0 c.if-t-j-ne0.true)

pub returns : goal.returns
unfolding enter_to
returns c = rw (lt-ltb c.args.i c.args.na c.if-na-i.false, lt-ltb c.args.j c.args.nb c.if-nb-j.false, lt-ltb c.args.i 4096 c.if-i-ge-LINES.false, lt-ltb c.args.j 4096 c.if-j-ge-LINES.false, eq-eqb (get_or c.args.p.now c.args.i 0) 0 c.if-p-i-ne0.false, eq-eqb (get_or c.args.t.now c.args.j 0) 0 c.if-t-j-ne0.false)
