-- `console_parts::entries_of` meets its contract. Assumes nothing.
use mathlib.Core.Path.{◌≡◌}
use Rattle.console_parts.specs.Parts.{sources_up_to}
use Rattle.console_parts.proofs.entries_of.Given as goal

abbrev pub invariant-loop-i : goal.invariant-loop-i
invariant-loop-i l = l.a ≡ sources_up_to l.s l.i
