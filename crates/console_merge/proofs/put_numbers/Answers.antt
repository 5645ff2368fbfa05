-- `console_merge::put_numbers` meets its contract. Assumes nothing.
use Rattle.console_merge.proofs.MergeLaws.{word_none, word_some}
use Rattle.console_merge.proofs.put_numbers.Goals as goal

pub returns-then-s-eq0 : goal.returns-then-s-eq0
returns-then-s-eq0 c = rw (word_none c.args.s.now c.if-s-eq0.true) c.put_all.ensures

pub returns : goal.returns
returns c = rw (word_some c.args.s.now c.if-s-eq0.false) c.put_spaced_numbers.ensures
