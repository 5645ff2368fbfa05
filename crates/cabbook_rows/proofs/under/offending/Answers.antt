-- `cabbook_rows::under::offending` meets its contract. Assumes nothing.
use Rattle.cabbook_rows.proofs.under.offending.Goals as goal

pub shown_end-end-requires : goal.shown_end-end-requires
shown_end-end-requires c = c.line_start-from.ensures.1

pub returns : goal.returns
returns c = rw (← c.line_start-from.ensures.0) (rw (← c.shown_end-end.ensures) c.part.ensures)
