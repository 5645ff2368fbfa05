-- `merge_sides::field_at` meets its contract. Assumes nothing.
use borrow.Author.Tests.{lt-ltb, le-ltb}
use mathlib.Core.Path.{sym}
use native.Mathlib.Omega.{arith}
use lib.ListN.{get_or-eq_default}
use Rattle.merge_sides.specs.Lines.{field_at}
use Rattle.merge_sides.proofs.field_at.Goals as goal

pub returns-then-i-gt-LINES : goal.returns-then-i-gt-LINES
unfolding field_at
returns-then-i-gt-LINES c = record { value = rw (lt-ltb 4096 c.args.i c.if-i-gt-LINES.true); upper_bound = omega arith }

pub returns-then-rs-at : goal.returns-then-rs-at
unfolding field_at
returns-then-rs-at c = record { value = rw (le-ltb 4096 c.args.i c.if-i-gt-LINES.false) (sym (get_or-eq_default c.args.rs.now 0 c.if-rs-at.true)); upper_bound = omega arith }

pub returns : goal.returns
unfolding field_at
returns c = record { value = rw (le-ltb 4096 c.args.i c.if-i-gt-LINES.false) c.wide_number.ensures.0; upper_bound = c.wide_number.ensures.1 }
