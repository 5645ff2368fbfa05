-- `label_carets::is_code` meets its contract. Assumes nothing.
use native.Mathlib.Omega.{arith}
use Rattle.std.proofs.lemmas.Bool.Decides.{nat_tests}
use Rattle.label_carets.specs.Decoded.{code}
use Rattle.label_carets.proofs.is_code.Goals as goal

pub returns-in-110 : goal.returns-in-110
unfolding code
returns-in-110 c = grind (arith, nat_tests)

pub returns-in_default : goal.returns-in_default
unfolding code
returns-in_default c = grind (arith, nat_tests)
