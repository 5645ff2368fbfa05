-- `value_kinds::has_semicolons` meets its contract. Assumes nothing.
use borrow.Author.Tests.{lt-ltb, le-ltb, le-leb, lt-leb}
use mathlib.Core.Path.{sym}
use Rattle.value_kinds.proofs.has_semicolons.Goals as goal

pub returns-then-n-least : goal.returns-then-n-least
returns-then-n-least c =
    let k = c.count_semicolons-n in
    simp (sym k.ensures, lt-ltb _ _ c.if-n-least.true)

pub returns-then-most-n : goal.returns-then-most-n
returns-then-most-n c =
    let k = c.count_semicolons-n in
    simp (sym k.ensures, le-ltb _ _ c.if-n-least.false, le-leb _ _ c.if-most-n.true)

pub returns : goal.returns
returns c =
    let k = c.count_semicolons-n in
    simp (sym k.ensures, le-ltb _ _ c.if-n-least.false, lt-leb _ _ c.if-most-n.false, c.lacks.ensures)
