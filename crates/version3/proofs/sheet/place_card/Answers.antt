-- `version3::sheet::place_card` meets its contract. Assumes nothing.
use borrow.Author.Rules.{rules}
use native.Mathlib.Omega.{arith}
use Rattle.version3.proofs.PlaceLaws.{begun}
use Rattle.version3.proofs.sheet.place_card.Goals as goal

pub place_lines-requires : goal.place_lines-requires
place_lines-requires c =
    let p = c.requires in
    record { classes = search rules; s_len_bound = c.requires.s_len_bound; lent = c.requires.lent; halfway = begun _ _ _ _ _ }

pub place_rest-requires : goal.place_rest-requires
place_rest-requires c =
    let p = c.requires in
    let r = rw (c.in_ok-e.was, c.in-Long.is) at c.place_lines.ensures in
    record { classes = search rules; s_len_bound = c.requires.s_len_bound.0; lent = (omega (arith, c.place_lines, c.requires.lent.0), omega (arith, c.place_lines, c.requires.lent.1), omega (arith, c.place_lines, c.requires.lent.2)); halfway = r.2 }

pub returns-in-End : goal.returns-in-End
returns-in-End c = rw (c.in_ok-e.was, c.in-End.is) at c.place_lines.ensures
