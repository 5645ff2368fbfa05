-- `version3::sheet::place_any` meets its contract. Assumes nothing.
use native.Mathlib.Omega.{arith}
use Rattle.version3.proofs.sheet.place_any.Goals as goal

pub returns-in-End : goal.returns-in-End
returns-in-End c = rw (c.in_ok-e.was, c.in-End.is) at c.place_with.ensures

pub returns-in-Long : goal.returns-in-Long
returns-in-Long c =
    let r = rw (c.in_ok-e.was, c.in-Long.is) at c.place_with.ensures in
    absurd (omega (arith, r.0, r.1, c.requires.s_len_bound))
