-- `console::serve` ends: the turns that are left become fewer. Assumes nothing.
use Rattle.console.proofs.serve.Given as goal

abbrev pub decreases-loop-turns : goal.decreases-loop-turns
decreases-loop-turns l = l.turns
