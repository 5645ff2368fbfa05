-- `text_marks::held_bit` meets its contract. Assumes nothing.
use lib.Dec.{eqb}
use Rattle.text_marks.specs.Seen.{held}
use mathlib.Core.Path.{◌∙◌}
use Rattle.octets.proofs.BitLaws.{or_four, byte_bit}
use Rattle.text_marks.proofs.held_bit.Goals as goal

pub returns : goal.returns
unfolding held
returns c = or_four (eqb c.args.b 92) (eqb c.args.b 44) (eqb c.args.b c.args.x) (eqb c.args.b c.args.y) ∙ byte_bit (held c.args.x c.args.y c.args.b)
