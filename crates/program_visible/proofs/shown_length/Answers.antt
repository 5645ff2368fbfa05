-- `program_visible::shown_length` meets its contract. Assumes nothing.
use Rattle.program_visible.proofs.VisibleLaws.{character_at}
use Rattle.program_visible.proofs.shown_length.Goals as goal

pub returns-then-is_hidden : goal.returns-then-is_hidden
returns-then-is_hidden c =
    let a = c.args in
    rw (character_at a.s.now a.i, ← c.octet_at-first.ensures, ← c.octet_at-second.ensures, ← c.octet_at-third.ensures, ← c.is_hidden.ensures, c.if-is_hidden.true)

pub returns : goal.returns
returns c =
    let a = c.args in
    rw (character_at a.s.now a.i, ← c.octet_at-first.ensures, ← c.octet_at-second.ensures, ← c.octet_at-third.ensures, ← c.is_hidden.ensures, c.if-is_hidden.false) c.unit_length.ensures
