-- `cabbook_rows::values::put_wanted` meets its contract. Assumes nothing.
use native.Mathlib.Omega.{arith}
use lib.ListN.{length}
use borrow.Author.Tests.{lt-ltb, le-ltb}
use Rattle.cabbook_rows.proofs.PartLaws.{part_le}
use Rattle.cabbook_rows.proofs.values.put_wanted.Goals as goal

pub returns-then-s-gt-OCTETS : goal.returns-then-s-gt-OCTETS
returns-then-s-gt-OCTETS c = rw (lt-ltb 16384 (length c.args.s.now) c.if-s-gt-OCTETS.true) c.put_words.ensures

pub line_end-end-requires : goal.line_end-end-requires
line_end-end-requires c = c.line_start-from.ensures.1

pub unfolded_length-octet-requires : goal.unfolded_length-octet-requires
unfolded_length-octet-requires c =
    let a = c.args in
    rw c.part.ensures (omega (arith, part_le a.s.now c.line_start-from.result a.place))

pub put_raw_value-requires : goal.put_raw_value-requires
put_raw_value-requires c = rw c.part-2.ensures (omega (arith, part_le c.args.s.now c.line_start-from.result c.line_end-end.result))

pub returns : goal.returns
returns c = rw (le-ltb 16384 (length c.args.s.now) c.if-s-gt-OCTETS.false, ← c.line_start-from.ensures.0) (rw (← c.line_end-end.ensures.0) (rw (c.part-2.ensures, c.unfolded_length-octet.ensures, c.part.ensures) at c.put_raw_value.ensures))
