-- `version3::sheet::place_rest` meets its contract. Assumes nothing.
use native.Mathlib.Omega.{arith}
use Rattle.version3.proofs.sheet.place_rest.Goals as goal

pub place_any-requires-in-Long : goal.place_any-requires-in-Long
place_any-requires-in-Long c =
    let p = c.requires in
    let r = rw (c.in_ok-e.was, c.in-Long.is) at c.place_with.ensures in
    record { classes = c.requires.classes; s_len_bound = c.requires.s_len_bound; lent = (omega (arith, c.place_with, c.requires.lent.0), omega (arith, c.place_with, c.requires.lent.1), omega (arith, c.place_with, c.requires.lent.2)); halfway = r.2 }

pub returns-in-End : goal.returns-in-End
returns-in-End c = rw (c.in_ok-e.was, c.in-End.is) at c.place_with.ensures
