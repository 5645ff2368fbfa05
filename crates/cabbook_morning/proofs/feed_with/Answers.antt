-- `cabbook_morning::feed_with` meets its contract. Assumes nothing.
use Rattle.cabbook_morning.proofs.feed_with.Goals as goal

pub returns-in_default : goal.returns-in_default
returns-in_default c = let f = rw c.count_unread.ensures at c.release.ensures in rw c.in_default.is (f.value, f.pool_after)

pub returns-then-n-eq0 : goal.returns-then-n-eq0
returns-then-n-eq0 c = rw c.in-Some.is (λ e. rw c.judge.ensures at c.finish.ensures, λ h. absurd (h c.if-n-eq0.true))

pub returns : goal.returns
returns c = rw c.in-Some.is (λ e. absurd (c.if-n-eq0.false e), λ h. rw c.part.ensures at c.add_chunk.ensures)
