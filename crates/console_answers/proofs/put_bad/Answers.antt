-- `console_answers::put_bad` meets its contract. Assumes nothing.
use Rattle.octets.specs.Ascii.{octets}
use Rattle.console_answers.specs.Texts.{bad_line}
use Rattle.console_answers.proofs.put_bad.Goals as goal

pub returns : goal.returns
unfolding bad_line octets
returns c = c.put_all.ensures
