-- `console_words::without_cr` meets its contract. Assumes nothing.
use Rattle.console_words.proofs.WordLaws.{cr_told}
use Rattle.console_words.proofs.without_cr.Goals as goal

pub returns : goal.returns
returns c = rw c.unwrap_or.ensures (cr_told c.args.line c.strip_suffix.result c.strip_suffix.ensures.cases)
