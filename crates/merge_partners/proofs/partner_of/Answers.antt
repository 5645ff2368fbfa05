-- `merge_partners::partner_of` meets its contract. Assumes nothing.
use borrow.Author.Tests.{lt-ltb, le-ltb}
use native.Mathlib.Omega.{arith}
use lib.ListN.{get_or}
use Rattle.merge_partners.specs.Heads.{partner_of}
use Rattle.merge_partners.proofs.partner_of.Goals as goal

pub returns-then-i-ge-LINES : goal.returns-then-i-ge-LINES
unfolding partner_of
returns-then-i-ge-LINES c = rw (le-ltb c.args.i 4096 c.if-i-ge-LINES.true)

pub returns-then-wide_number-gt-LINES : goal.returns-then-wide_number-gt-LINES
unfolding partner_of
returns-then-wide_number-gt-LINES c = rw (lt-ltb c.args.i 4096 c.if-i-ge-LINES.false, lt-ltb 4096 (get_or c.args.p.now c.args.i 0) (omega (arith, c.if-wide_number-gt-LINES.true, c.wide_number.ensures.0)))

pub returns : goal.returns
unfolding partner_of
returns c = rw (lt-ltb c.args.i 4096 c.if-i-ge-LINES.false, le-ltb 4096 (get_or c.args.p.now c.args.i 0) (omega (arith, c.if-wide_number-gt-LINES.false, c.wide_number.ensures.0)))
