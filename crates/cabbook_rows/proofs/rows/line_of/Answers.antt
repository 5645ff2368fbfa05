-- `cabbook_rows::rows::line_of` meets its contract. Assumes nothing.
use Rattle.cabbook_rows.proofs.rows.line_of.Goals as goal

pub returns : goal.returns
returns c = cc (c.line_number.ensures, c.part.ensures, c.least-end.ensures.value)
