-- `console_parts::part_end` meets its contract. Assumes nothing.
use native.Mathlib.Omega.{arith}
use borrow.Author.Tests.{lt-ltb, le-ltb}
use Rattle.console_parts.specs.Parts.{part_end}
use Rattle.console_parts.proofs.part_end.Goals as goal

pub returns-then-s-from : goal.returns-then-s-from
unfolding part_end
returns-then-s-from c = (rw (lt-ltb _ _ c.if-s-from.true), omega arith)

pub returns-then-s-from-2 : goal.returns-then-s-from-2
unfolding part_end
returns-then-s-from-2 c = (rw (le-ltb _ _ c.if-s-from.false, ← c.number_at-n.ensures, lt-ltb _ _ c.if-s-from-2.true), omega arith)

pub returns : goal.returns
unfolding part_end
returns c = (rw (le-ltb _ _ c.if-s-from.false, ← c.number_at-n.ensures, le-ltb _ _ c.if-s-from-2.false), omega arith)
