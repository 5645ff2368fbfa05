-- `console_parts::source_at` meets its contract. Assumes nothing.
use Rattle.console_parts.specs.Parts.{source_at}
use Rattle.console_parts.proofs.source_at.Goals as goal

pub returns : goal.returns
unfolding source_at
returns c = rw (c.number_at.ensures, c.number_at-2.ensures, c.number_at-3.ensures)
