-- `text_unescaping::is_code` meets its contract. Assumes nothing.
use native.Mathlib.Omega.{arith}
use Rattle.std.proofs.lemmas.Bool.Decides.{nat_tests}
use Rattle.text_marks.specs.Marks.{special}
use Rattle.text_unescaping.specs.Unescaped.{code}
use Rattle.text_unescaping.proofs.is_code.Goals as goal

pub returns-in-92 : goal.returns-in-92
unfolding code special
returns-in-92 c = grind (arith, nat_tests)

pub returns-in_default : goal.returns-in_default
unfolding code special
returns-in_default c = grind (arith, nat_tests)
