-- `utf8::char_length` meets its contract. Assumes nothing.
use native.Mathlib.Omega.{arith}
use Rattle.std.proofs.lemmas.Bool.Decides.{nat_tests}
use Rattle.utf8.proofs.Chars.{char_at}
use Rattle.utf8.proofs.char_length.Goals as goal

pub returns-then-whole : goal.returns-then-whole
returns-then-whole c = grind (arith, nat_tests, char_at c.args.s.now c.args.i c.length_by-n.result c.length_by-n.ensures)

pub returns-else-whole : goal.returns-else-whole
returns-else-whole c = grind (arith, nat_tests, char_at c.args.s.now c.args.i c.length_by-n.result c.length_by-n.ensures)
