-- `folder_raising::raise` meets its contract. Assumes nothing.
use Rattle.folder_raising.proofs.Steps.{Upto}
use Rattle.folder_raising.proofs.raise.Given as goal

abbrev pub invariant-loop-x : goal.invariant-loop-x
invariant-loop-x l = Upto l.initial.d l.d l.spot l.x-index
