-- `value_offsets::digit_at` meets its contract. Assumes nothing.
use borrow.Author.Rules.{rules}
use native.Mathlib.Omega.{arith}
use lib.ListN.{get_or-eq_default}
use Rattle.value_offsets.specs.Minutes.{digit_at}
use Rattle.value_offsets.proofs.digit_at.Goals as goal

pub returns-then-s-i : goal.returns-then-s-i
unfolding digit_at
returns-then-s-i c =
    let a = c.args in
    record { value = rw (get_or-eq_default a.s.now 0 c.if-s-i.true); upper_bound = omega arith }

pub returns-then-x-lt48 : goal.returns-then-x-lt48
unfolding digit_at
returns-then-x-lt48 c = record { value = omega arith; upper_bound = omega arith }

pub overflow_cast-result : goal.overflow_cast-result
overflow_cast-result c = omega (arith, c.type_inv.s c.args.i)

pub returns : goal.returns
unfolding digit_at
returns c = record { value = search rules; upper_bound = omega (arith, c.type_inv.s c.args.i) }
