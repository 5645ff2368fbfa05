-- `merge_partners::seat_of` meets its contract. Assumes nothing.
use borrow.Author.Tests.{lt-ltb, le-ltb}
use native.Mathlib.Omega.{arith}
use Rattle.merge_partners.specs.Heads.{seat_of}
use Rattle.merge_partners.proofs.seat_of.Goals as goal

pub returns-then-wide_number-ge-LINES : goal.returns-then-wide_number-ge-LINES
unfolding seat_of
returns-then-wide_number-ge-LINES c = rw (le-ltb c.args.line 4096 (omega (arith, c.if-wide_number-ge-LINES.true, c.wide_number.ensures.0)))

pub returns : goal.returns
unfolding seat_of
returns c = rw (lt-ltb c.args.line 4096 (omega (arith, c.if-wide_number-ge-LINES.false, c.wide_number.ensures.0)))
