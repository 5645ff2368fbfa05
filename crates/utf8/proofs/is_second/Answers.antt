-- `utf8::is_second` meets its contract. Assumes nothing.
use native.Mathlib.Omega.{arith}
use Rattle.std.proofs.lemmas.Bool.Decides.{nat_tests}
use Rattle.utf8.specs.Characters.{second}
use Rattle.utf8.proofs.is_second.Goals as goal

pub returns-in-224 : goal.returns-in-224
unfolding second
returns-in-224 c = grind (arith, nat_tests)

pub returns-in-237 : goal.returns-in-237
unfolding second
returns-in-237 c = grind (arith, nat_tests)

pub returns-in-240 : goal.returns-in-240
unfolding second
returns-in-240 c = grind (arith, nat_tests)

pub returns-in-244 : goal.returns-in-244
unfolding second
returns-in-244 c = grind (arith, nat_tests)

pub returns-in_default : goal.returns-in_default
unfolding second
returns-in_default c = grind (arith, nat_tests)
