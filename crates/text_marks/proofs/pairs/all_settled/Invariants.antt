-- `text_marks::pairs::all_settled` meets its contract. Assumes nothing.
use mathlib.Core.Path.{◌≡◌}
use mathlib.Core.Bool.{◌&&◌}
use lib.Dec.{eqb}
use lib.ListN.{drop}
use Rattle.text_marks.specs.Pairs.{settled}
use Rattle.text_marks.proofs.pairs.all_settled.Given as goal

abbrev pub invariant-loop-b : goal.invariant-loop-b
invariant-loop-b l = settled l.listed 0 l.s ≡ (eqb l.bad 0 && settled l.listed l.before (drop l.b-index l.s))
