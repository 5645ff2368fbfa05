-- `console_answers::put_spaced_numbers` meets its contract. Assumes nothing.
use mathlib.Core.Path.{◌≡◌}
use lib.ListN.{length, drop}
use Rattle.program_output.specs.Pages.{page, added}
use Rattle.console_answers.specs.Texts.{others}
use Rattle.console_answers.proofs.put_spaced_numbers.Given as goal

abbrev pub invariant-loop-n : goal.invariant-loop-n
invariant-loop-n l = (length l.out ≡ length l.initial.out) × (added (others (drop l.n-index l.rest)) (page l.end l.out) ≡ added (others l.rest) (page l.initial.end l.initial.out))
