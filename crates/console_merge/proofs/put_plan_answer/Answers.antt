-- `console_merge::put_plan_answer` meets its contract. Assumes nothing.
use borrow.Author.Tests.{lt-ltb, le-ltb}
use Rattle.console_merge.specs.MergeAnswers.{plan_answer}
use Rattle.console_merge.proofs.put_plan_answer.Goals as goal

pub returns-then-n-gt-ROOM : goal.returns-then-n-gt-ROOM
unfolding plan_answer
returns-then-n-gt-ROOM c = rw (lt-ltb _ _ c.if-n-gt-ROOM.true) c.put_bad.ensures

pub returns-then-s-gt-OCTETS : goal.returns-then-s-gt-OCTETS
unfolding plan_answer
returns-then-s-gt-OCTETS c = rw (le-ltb _ _ c.if-n-gt-ROOM.false, lt-ltb _ _ c.if-s-gt-OCTETS.true) c.put_bad-then-s-gt-OCTETS.ensures

pub returns-then-holds_edits : goal.returns-then-holds_edits
unfolding plan_answer
returns-then-holds_edits c = rw (le-ltb _ _ c.if-n-gt-ROOM.false, le-ltb _ _ c.if-s-gt-OCTETS.false, ← c.holds_edits.ensures, c.if-holds_edits.true) c.put_plan_fresh.ensures

pub returns : goal.returns
unfolding plan_answer
returns c = rw (le-ltb _ _ c.if-n-gt-ROOM.false, le-ltb _ _ c.if-s-gt-OCTETS.false, ← c.holds_edits.ensures, c.if-holds_edits.false) c.put_bad-2.ensures
