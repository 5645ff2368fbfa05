-- `merge_partners::number_of` meets its contract. Assumes nothing.
use borrow.Author.Tests.{lt-ltb, le-ltb}
use mathlib.Core.Path.{sym}
use lib.ListN.{get_or-eq_default}
use Rattle.merge_partners.specs.Keys.{number_at}
use Rattle.merge_partners.proofs.number_of.Goals as goal

pub returns-then-k-gt-LINES : goal.returns-then-k-gt-LINES
unfolding number_at
returns-then-k-gt-LINES c = rw (lt-ltb 4096 c.args.k c.if-k-gt-LINES.true)

pub returns-then-marks-at : goal.returns-then-marks-at
unfolding number_at
returns-then-marks-at c = rw (le-ltb 4096 c.args.k c.if-k-gt-LINES.false) (sym (get_or-eq_default c.args.marks.now 0 c.if-marks-at.true))

pub returns : goal.returns
unfolding number_at
returns c = rw (le-ltb 4096 c.args.k c.if-k-gt-LINES.false)
