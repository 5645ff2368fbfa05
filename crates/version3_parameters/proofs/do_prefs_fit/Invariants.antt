-- The proof's answers.
use mathlib.Core.Path.{◌≡◌}
use mathlib.Core.List.{List}
use Prim.Native.Nat.{◌≤◌, ◌-◌}
use lib.ListN.{length}
use Rattle.line_parser.specs.Grammar.{Param}
use Rattle.version3_parameters.specs.Params.{prefs_fit}
use Rattle.version3_parameters.specs.Places.{params_of}
use Rattle.version3_parameters.proofs.RestLaws.{Rest}
use Rattle.version3_parameters.proofs.EachLaws.{fitting}
use Rattle.version3_parameters.proofs.do_prefs_fit.Given as goal

abbrev pub invariant-loop-at : goal.invariant-loop-at
invariant-loop-at l = (l.n ≤ l.at) × (ps : List Param) × Rest l.s l.at ps × (prefs_fit l.way (params_of l.s) ≡ fitting l.way l.n ps)

abbrev pub decreases-loop-at : goal.decreases-loop-at
decreases-loop-at l = length l.s - l.at
