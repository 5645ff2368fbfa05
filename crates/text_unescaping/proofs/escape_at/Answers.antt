-- `text_unescaping::escape_at` meets its contract. Assumes nothing.
use native.Mathlib.Omega.{arith}
use Rattle.std.proofs.lemmas.Bool.Decides.{nat_tests}
use Rattle.text_unescaping.proofs.UnescapeLaws.{escape_eq, escape_short}
use Rattle.text_unescaping.proofs.escape_at.Goals as goal

pub returns-then-s-i-ge2 : goal.returns-then-s-i-ge2
returns-then-s-i-ge2 c = grind (arith, nat_tests, escape_eq c.args.s.now c.args.i, escape_short c.args.s.now c.args.i)

pub returns-else-s-i-ge2 : goal.returns-else-s-i-ge2
returns-else-s-i-ge2 c = grind (arith, nat_tests, escape_eq c.args.s.now c.args.i, escape_short c.args.s.now c.args.i)
