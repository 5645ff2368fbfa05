-- `value_kinds::fits_at_once` meets its contract. Assumes nothing.
use borrow.Author.Tests.{ne_eqb}
use mathlib.Core.Path.{sym}
use Rattle.value_kinds.specs.AtOnce.{fits_at_once}
use Rattle.value_kinds.proofs.fits_at_once.Goals as goal

pub returns-in-0 : goal.returns-in-0
unfolding fits_at_once
returns-in-0 c = rw c.in-0.is

pub returns-in-1 : goal.returns-in-1
unfolding fits_at_once
returns-in-1 c = rw c.in-1.is c.lacks.ensures

pub returns-in-2 : goal.returns-in-2
unfolding fits_at_once
returns-in-2 c = rw c.in-2.is c.lacks-in-2.ensures

pub returns-in-4 : goal.returns-in-4
unfolding fits_at_once
returns-in-4 c = rw (c.in-4.is, sym c.most_of_name.ensures) c.has_semicolons.ensures

pub returns-in-5 : goal.returns-in-5
unfolding fits_at_once
returns-in-5 c = rw (c.in-5.is, sym c.most_of_address.ensures) c.has_semicolons-in-5.ensures

pub returns-in-6 : goal.returns-in-6
unfolding fits_at_once
returns-in-6 c = rw c.in-6.is c.lacks-in-6.ensures

pub returns-in_default : goal.returns-in_default
unfolding fits_at_once
returns-in_default c =
    let o = c.in_default.in_default-own.rest in
    let k = c.args.kind in
    simp (
      ne_eqb k 0 o.0.0.0.0.0.1,
      ne_eqb k 1 o.0.0.0.0.1,
      ne_eqb k 2 o.0.0.0.1,
      ne_eqb k 4 o.0.0.1,
      ne_eqb k 5 o.0.1,
      ne_eqb k 6 o.1,
    )
