-- `folder_raising::pass_values` meets its contract. Assumes nothing.
use Rattle.octets.specs.Pick.{pick}
use Rattle.folder_raising.specs.Walk.{Kept}
use Rattle.folder_raising.specs.declared.Spot.TheVariants.{Values, Quotes}
use Rattle.folder_raising.proofs.pass_values.Given as goal

abbrev pub invariant-loop-i : goal.invariant-loop-i
invariant-loop-i l = Kept (pick l.quoted Quotes Values) l.i l.s → Kept Values l.from l.s
