-- `value_automaton::is_four` meets its contract. Assumes nothing.
use borrow.Author.Tests.{eqb-true}
use mathlib.Core.Path.{refl}
use mathlib.Core.Bool.{false≢true}
use native.Mathlib.Omega.{arith}
use Rattle.value_automaton.proofs.FixedLaws.{version_matches}
use Rattle.value_automaton.proofs.is_four.Goals as goal

pub returns-then-s-ne3 : goal.returns-then-s-ne3
returns-then-s-ne3 c = λ e. absurd (false≢true e)

pub returns : goal.returns
returns c =
    let s = c.args.s.now in
    λ e. version_matches s _ _ _ (omega arith) refl refl refl (eqb-true _ 0 e)
