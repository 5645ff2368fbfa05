-- `console_answers::hex::put_octets` meets its contract. Assumes nothing.
use mathlib.Core.Path.{◌≡◌}
use lib.ListN.{length, drop}
use Rattle.program_output.specs.Pages.{page, added}
use Rattle.console_answers.specs.Texts.{pairs, octets_word}
use Rattle.console_answers.proofs.hex.put_octets.Given as goal

abbrev pub invariant-loop-octet : goal.invariant-loop-octet
invariant-loop-octet l = (length l.out ≡ length l.initial.out) × (added (pairs (drop l.octet-index l.octets)) (page l.end l.out) ≡ added (octets_word l.octets) (page l.at l.initial.out))
