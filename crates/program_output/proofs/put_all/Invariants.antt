-- `program_output::put_all` meets its contract. Assumes nothing.
use mathlib.Core.Path.{◌≡◌}
use lib.ListN.{length, drop}
use Rattle.program_output.specs.Pages.{page, added}
use Rattle.program_output.proofs.put_all.Given as goal

abbrev pub invariant-loop-octet : goal.invariant-loop-octet
invariant-loop-octet l = (length l.room ≡ length l.initial.room) × (added (drop l.octet-index l.text) (page l.next l.room) ≡ added l.text (page l.at l.initial.room))
