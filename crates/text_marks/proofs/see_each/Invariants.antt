-- `text_marks::see_each` meets its contract. Assumes nothing.
use lib.ListN.{take}
use Rattle.text_marks.specs.Seen.{Sees}
use Rattle.text_marks.proofs.see_each.Given as goal

abbrev pub invariant-loop-b : goal.invariant-loop-b
invariant-loop-b g l = Sees (goal.F-post g l.look) (take l.b-index l.s) l.bits
