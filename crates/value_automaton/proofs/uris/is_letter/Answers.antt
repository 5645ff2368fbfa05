-- `value_automaton::uris::is_letter` meets its contract. Assumes nothing.
use mathlib.Core.Path.{sym, ◌∙◌}
use Rattle.octets.specs.Classes.{letter as is_letter}
use Rattle.value_kinds.specs.Octets.{holds}
use Rattle.value_automaton.proofs.uris.is_letter.Goals as goal

pub returns : goal.returns
unfolding holds is_letter
returns c = λ e. sym c.is_ascii_alphabetic.ensures.value ∙ e
