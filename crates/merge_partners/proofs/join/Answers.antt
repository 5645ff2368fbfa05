-- `merge_partners::join` meets its contract. Assumes nothing.
use borrow.Author.Tests.{eq-eqb, ne_eqb, lt-ltb, le-ltb}
use mathlib.Core.Path.{sym, ◌∙◌}
use Prim.Native.Nat.{◌+◌}
use lib.ListN.{get_or}
use Rattle.merge_partners.specs.Pairs.{join_to}
use Rattle.merge_partners.proofs.join.Goals as goal

pub returns-then-i-ge-LINES : goal.returns-then-i-ge-LINES
unfolding join_to
returns-then-i-ge-LINES c = rw (le-ltb c.args.i 4096 c.if-i-ge-LINES.true)

pub returns-then-j-ge-LINES : goal.returns-then-j-ge-LINES
unfolding join_to
returns-then-j-ge-LINES c = rw (lt-ltb c.args.i 4096 c.if-i-ge-LINES.false, le-ltb c.args.j 4096 c.if-j-ge-LINES.true)

pub returns-then-wide_number-j : goal.returns-then-wide_number-j
unfolding join_to
returns-then-wide_number-j c = rw (lt-ltb c.args.i 4096 c.if-i-ge-LINES.false, lt-ltb c.args.j 4096 c.if-j-ge-LINES.false, eq-eqb (get_or c.args.p.now c.args.i 0) (c.args.j + 1) (sym c.wide_number.ensures.0 ∙ c.if-wide_number-j.true))

pub returns-then-p-i-ne0 : goal.returns-then-p-i-ne0
unfolding join_to
returns-then-p-i-ne0 c = rw (lt-ltb c.args.i 4096 c.if-i-ge-LINES.false, lt-ltb c.args.j 4096 c.if-j-ge-LINES.false, ne_eqb (get_or c.args.p.now c.args.i 0) (c.args.j + 1) (λ e. c.if-wide_number-j.false (c.wide_number.ensures.0 ∙ e)), ne_eqb (get_or c.args.p.now c.args.i 0) 0 c.if-p-i-ne0.true)

pub returns-then-t-j-ne0 : goal.returns-then-t-j-ne0
unfolding join_to
returns-then-t-j-ne0 c = rw (lt-ltb c.args.i 4096 c.if-i-ge-LINES.false, lt-ltb c.args.j 4096 c.if-j-ge-LINES.false, ne_eqb (get_or c.args.p.now c.args.i 0) (c.args.j + 1) (λ e. c.if-wide_number-j.false (c.wide_number.ensures.0 ∙ e)), eq-eqb (get_or c.args.p.now c.args.i 0) 0 c.if-p-i-ne0.false, ne_eqb (get_or c.args.t.now c.args.j 0) 0 c.if-t-j-ne0.true)

pub returns : goal.returns
unfolding join_to
returns c = rw (lt-ltb c.args.i 4096 c.if-i-ge-LINES.false, lt-ltb c.args.j 4096 c.if-j-ge-LINES.false, ne_eqb (get_or c.args.p.now c.args.i 0) (c.args.j + 1) (λ e. c.if-wide_number-j.false (c.wide_number.ensures.0 ∙ e)), eq-eqb (get_or c.args.p.now c.args.i 0) 0 c.if-p-i-ne0.false, eq-eqb (get_or c.args.t.now c.args.j 0) 0 c.if-t-j-ne0.false)
