-- `label_carets::pair_at` meets its contract. Assumes nothing.
use native.Mathlib.Omega.{arith}
use Rattle.std.proofs.lemmas.Bool.Decides.{nat_tests}
use Rattle.label_carets.proofs.PairLaws.{pair_eq, pair_short}
use Rattle.label_carets.proofs.pair_at.Goals as goal

pub returns-then-s-i-ge2 : goal.returns-then-s-i-ge2
returns-then-s-i-ge2 c = grind (arith, nat_tests, pair_eq c.args.s.now c.args.i, pair_short c.args.s.now c.args.i)

pub returns-else-s-i-ge2 : goal.returns-else-s-i-ge2
returns-else-s-i-ge2 c = grind (arith, nat_tests, pair_eq c.args.s.now c.args.i, pair_short c.args.s.now c.args.i)
