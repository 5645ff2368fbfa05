-- `cabbook_options::names::number_in` meets its contract. Assumes nothing.
use mathlib.Core.List.{List}
use Prim.Native.Nat.{◌-◌}
use lib.ListN.{length}
use Rattle.cabbook_options.specs.Names.{Name}
use Rattle.cabbook_options.proofs.NameLaws.{Searched}
use Rattle.cabbook_options.proofs.names.number_in.Given as goal

abbrev pub invariant-loop-from : goal.invariant-loop-from
invariant-loop-from l = (ms : List Name) × Searched l.t l.word l.from ms

abbrev pub decreases-loop-from : goal.decreases-loop-from
decreases-loop-from l = length l.t - l.from
