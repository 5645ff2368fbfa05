-- `line_breaks::each_joined` meets its contract. Assumes nothing.
use Rattle.line_breaks.specs.Lone.{Joined}
use Rattle.line_breaks.proofs.each_joined.Given as goal

abbrev pub invariant-loop-i : goal.invariant-loop-i
invariant-loop-i l = Joined l.s l.i
