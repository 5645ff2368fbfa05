-- `utf8::length_by` meets its contract. Assumes nothing.
use native.Mathlib.Omega.{arith}
use Rattle.std.proofs.lemmas.Bool.Decides.{nat_tests}
use Rattle.utf8.specs.Characters.{length_by}
use Rattle.utf8.proofs.length_by.Goals as goal

pub returns-in-0-to-127 : goal.returns-in-0-to-127
unfolding length_by
returns-in-0-to-127 c = grind (arith, nat_tests)

pub returns-in-194-to-223 : goal.returns-in-194-to-223
unfolding length_by
returns-in-194-to-223 c = grind (arith, nat_tests)

pub returns-in-224-to-239 : goal.returns-in-224-to-239
unfolding length_by
returns-in-224-to-239 c = grind (arith, nat_tests)

pub returns-in-240-to-244 : goal.returns-in-240-to-244
unfolding length_by
returns-in-240-to-244 c = grind (arith, nat_tests)

pub returns-in_default : goal.returns-in_default
unfolding length_by
returns-in_default c = grind (arith, nat_tests)

pub returns-in_default-2 : goal.returns-in_default-2
unfolding length_by
returns-in_default-2 c = grind (arith, nat_tests)
