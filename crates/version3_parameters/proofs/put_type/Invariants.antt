-- The proof's answers.
use mathlib.Core.Path.{◌≡◌}
use mathlib.Core.Bool.{◌||◌}
use mathlib.Core.List.{List}
use Prim.Native.Nat.{◌≤◌, ◌+◌, ◌-◌}
use lib.ListN.{drop}
use Rattle.octets.proofs.Writes.{Written}
use Rattle.line_parser.specs.Grammar.{Value}
use Rattle.line_parser.specs.Rule.{param}
use Rattle.version3_parameters.specs.Params.{any_pref}
use Rattle.version3_parameters.specs.Places.{type_by, pref_by}
use Rattle.version3_parameters.proofs.RestLaws.{Values, left, name_by}
use Rattle.version3_parameters.proofs.put_type.Given as goal

abbrev pub invariant-loop-at : goal.invariant-loop-at
invariant-loop-at l = (l.at ≤ l.end + 1) × (vs : List Value) × Values l.s l.end l.at vs × Written (type_by (param (drop l.start l.s))) (left (name_by (param (drop l.start l.s))) l.w vs) l.initial.d l.d l.w × ((l.gone || any_pref vs) ≡ pref_by (param (drop l.start l.s)))

abbrev pub decreases-loop-at : goal.decreases-loop-at
decreases-loop-at l = l.end + 1 - l.at
