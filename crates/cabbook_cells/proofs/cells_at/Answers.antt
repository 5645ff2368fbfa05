-- `cabbook_cells::cells_at` meets its contract. Assumes nothing.
use lib.ListN.{length-replicate}
use Rattle.cabbook_cells.proofs.CellLaws.{in_digits, at_tab, at_character}
use Rattle.cabbook_cells.proofs.cells_at.Goals as goal

pub returns-then-n-eq0 : goal.returns-then-n-eq0
returns-then-n-eq0 c = rw (in_digits c.args.text.now c.args.i c.args.n c.requires.0 c.requires.1 c.if-n-eq0.true)

pub returns-then-text-i-eq9 : goal.returns-then-text-i-eq9
returns-then-text-i-eq9 c = rw (at_tab c.args.text.now c.args.i c.args.n c.requires.0 c.requires.1 c.if-n-eq0.false c.if-text-i-eq9.true)

pub returns : goal.returns
returns c =
    rw (at_character c.args.text.now c.args.i c.args.n c.requires.0 c.requires.1 c.if-n-eq0.false c.if-text-i-eq9.false, length-replicate)
    (rw (c.table-t.ensures, c.code_at.ensures) at c.cells_in.ensures)
