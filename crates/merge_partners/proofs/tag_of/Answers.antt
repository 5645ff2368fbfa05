-- `merge_partners::tag_of` meets its contract. Assumes nothing.
use borrow.Author.Tests.{lt-ltb, le-ltb}
use native.Mathlib.Omega.{arith}
use Rattle.merge_partners.specs.Heads.{tag_of}
use Rattle.merge_partners.proofs.tag_of.Goals as goal

pub returns-then-head-ge-HEADS : goal.returns-then-head-ge-HEADS
unfolding tag_of
returns-then-head-ge-HEADS c = rw (le-ltb c.args.head 4095 c.if-head-ge-HEADS.true)

pub returns-then-wide_number-ge-KEYS : goal.returns-then-wide_number-ge-KEYS
unfolding tag_of
returns-then-wide_number-ge-KEYS c = rw (lt-ltb c.args.head 4095 c.if-head-ge-HEADS.false, le-ltb c.args.key 1048576 (omega (arith, c.if-wide_number-ge-KEYS.true, c.wide_number.ensures.0)))

pub returns : goal.returns
unfolding tag_of
returns c = rw (lt-ltb c.args.head 4095 c.if-head-ge-HEADS.false, lt-ltb c.args.key 1048576 (omega (arith, c.if-wide_number-ge-KEYS.false, c.wide_number.ensures.0)))
