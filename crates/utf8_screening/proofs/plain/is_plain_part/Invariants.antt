-- `utf8_screening::plain::is_plain_part` meets its contract. Assumes nothing.
use mathlib.Core.Path.{◌≡◌}
use mathlib.Core.Bool.{◌&&◌}
use lib.Dec.{eqb}
use lib.ListN.{drop}
use Rattle.utf8_screening.specs.Plain.{all_plain}
use Rattle.utf8_screening.proofs.plain.is_plain_part.Given as goal

abbrev pub invariant-loop-b : goal.invariant-loop-b
invariant-loop-b g l = all_plain l.b-items ≡ (eqb l.bad 0 && all_plain (drop l.b-index l.b-items))
