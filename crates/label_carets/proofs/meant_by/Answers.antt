-- `label_carets::meant_by` meets its contract. Assumes nothing.
use native.Mathlib.Omega.{arith}
use Rattle.std.proofs.lemmas.Bool.Decides.{nat_tests}
use Rattle.label_carets.specs.Decoded.{meant}
use Rattle.label_carets.proofs.meant_by.Goals as goal

pub returns-in-110 : goal.returns-in-110
unfolding meant
returns-in-110 c = grind (arith, nat_tests)

pub returns-in-39 : goal.returns-in-39
unfolding meant
returns-in-39 c = grind (arith, nat_tests)

pub returns-in_default : goal.returns-in_default
unfolding meant
returns-in_default c = grind (arith, nat_tests)
