-- `value_kinds::mark_bit` meets its contract. Assumes nothing.
use lib.Dec.{eqb}
use Rattle.octets.proofs.Bools.{two_bits}
use Rattle.value_kinds.proofs.mark_bit.Goals as goal

pub returns : goal.returns
returns c = two_bits (eqb c.args.x c.args.a) (eqb c.args.x c.args.b)
