-- `value_automaton::other_bit` meets its contract. Assumes nothing.
use mathlib.Core.Path.{◌∙◌}
use mathlib.Core.Bool.{not}
use lib.Dec.{eqb}
use Rattle.octets.proofs.BitLaws.{and_bytes, byte_bit}
use Rattle.value_kinds.specs.Octets.{neither}
use Rattle.value_automaton.proofs.other_bit.Goals as goal

pub returns : goal.returns
returns c =
    let a = c.args in
    and_bytes (not (eqb a.x a.a)) (not (eqb a.x a.b)) ∙ byte_bit (neither a.a a.b a.x)
