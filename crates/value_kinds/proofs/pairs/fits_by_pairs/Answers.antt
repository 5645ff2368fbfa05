-- `value_kinds::pairs::fits_by_pairs` meets its contract. Assumes nothing.
use borrow.Author.Tests.{ne_eqb}
use Rattle.value_kinds.specs.ByPairs.{fits_by_pairs}
use Rattle.value_kinds.proofs.pairs.fits_by_pairs.Goals as goal

pub returns-in-1 : goal.returns-in-1
unfolding fits_by_pairs
returns-in-1 c = rw c.in-1.is c.all_settled.ensures

pub returns-in-2 : goal.returns-in-2
unfolding fits_by_pairs
returns-in-2 c = rw c.in-2.is c.all_settled-in-2.ensures

pub returns-in-6 : goal.returns-in-6
unfolding fits_by_pairs
returns-in-6 c = rw c.in-6.is c.all_settled-in-6.ensures

pub returns-in_default : goal.returns-in_default
unfolding fits_by_pairs
returns-in_default c =
    let o = c.in_default.in_default-own.rest in
    let k = c.args.kind in
    simp (ne_eqb k 1 o.0.0.1, ne_eqb k 2 o.0.1, ne_eqb k 6 o.1)
