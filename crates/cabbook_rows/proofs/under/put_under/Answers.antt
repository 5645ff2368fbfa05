-- `cabbook_rows::under::put_under` meets its contract. Assumes nothing.
use native.Mathlib.Omega.{arith}
use lib.ListN.{length}
use borrow.Author.Tests.{lt-ltb, le-ltb}
use Rattle.program_output.specs.Pages.{page}
use Rattle.program_output.proofs.PageLaws.{nothing}
use Rattle.cabbook_rows.proofs.PartLaws.{part_le}
use Rattle.cabbook_rows.proofs.under.put_under.Goals as goal

pub returns-then-s-gt-READ_ROOM : goal.returns-then-s-gt-READ_ROOM
returns-then-s-gt-READ_ROOM c =
    let a = c.args in
    rw (lt-ltb 16385 (length a.s.now) c.if-s-gt-READ_ROOM.true) (nothing (page a.at a.room.now)).sum

pub shown_end-end-requires : goal.shown_end-end-requires
shown_end-end-requires c = c.line_start-start.ensures.1

pub put_marked-requires : goal.put_marked-requires
put_marked-requires c =
    let a = c.args in
    let s = a.s.now in
    (rw c.part.ensures (omega (arith, part_le s c.line_start-start.result a.r.1)), rw c.part-2.ensures (omega (arith, part_le s a.r.1 c.shown_end-end.result)))

pub returns : goal.returns
returns c = rw (le-ltb 16385 (length c.args.s.now) c.if-s-gt-READ_ROOM.false, ← c.line_start-start.ensures.0) (rw (← c.shown_end-end.ensures) (rw (c.part.ensures, c.part-2.ensures) at c.put_marked.ensures))
