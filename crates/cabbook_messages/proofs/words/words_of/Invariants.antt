-- `cabbook_messages::words::words_of` meets its contract. Assumes nothing.
use mathlib.Core.List.{List}
use Prim.Native.Nat.{◌-◌}
use lib.ListN.{length}
use Rattle.cabbook_messages.specs.Words.{Message}
use Rattle.cabbook_messages.proofs.WordLaws.{Searched}
use Rattle.cabbook_messages.proofs.words.words_of.Given as goal

abbrev pub invariant-loop-from : goal.invariant-loop-from
invariant-loop-from l = (ms : List Message) × Searched l.t l.number l.from ms

abbrev pub decreases-loop-from : goal.decreases-loop-from
decreases-loop-from l = length l.t - l.from
