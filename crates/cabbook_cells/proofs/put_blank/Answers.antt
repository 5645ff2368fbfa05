-- `cabbook_cells::put_blank` meets its contract. Assumes nothing.
use Rattle.cabbook_cells.proofs.CellLaws.{in_digits, at_tab, at_character}
use Rattle.cabbook_cells.proofs.put_blank.Goals as goal

pub returns-then-n-eq0 : goal.returns-then-n-eq0
returns-then-n-eq0 c =
    let a = c.args in
    rw (in_digits a.text.now a.i a.n c.requires.0 c.requires.1 c.if-n-eq0.true) c.put_spaces.ensures

pub returns-then-text-i-eq9 : goal.returns-then-text-i-eq9
returns-then-text-i-eq9 c =
    let a = c.args in
    rw (at_tab a.text.now a.i a.n c.requires.0 c.requires.1 c.if-n-eq0.false c.if-text-i-eq9.true) c.put.ensures

pub returns : goal.returns
returns c =
    let a = c.args in
    rw (at_character a.text.now a.i a.n c.requires.0 c.requires.1 c.if-n-eq0.false c.if-text-i-eq9.false) (rw (c.cells_in-cells.ensures, c.table-t.ensures, c.code_at.ensures) at c.put_spaces-2.ensures)
