-- `console_merge::put_check_answer` meets its contract. Assumes nothing.
use Rattle.console_merge.specs.MergeAnswers.{check_answer}
use Rattle.console_merge.proofs.put_check_answer.Goals as goal

pub put_check_read-requires : goal.put_check_read-requires
put_check_read-requires c = c.is_check.ensures.s_len_bound c.if-is_check.true

pub returns-then-is_check : goal.returns-then-is_check
unfolding check_answer
returns-then-is_check c = rw (← c.is_check.ensures.value, c.if-is_check.true) c.put_check_read.ensures

pub returns : goal.returns
unfolding check_answer
returns c = rw (← c.is_check.ensures.value, c.if-is_check.false) c.put_bad.ensures
