-- `label::first_unwritable` meets its contract. Assumes nothing.
use mathlib.Core.Path.{refl, ◌∙◌}
use mathlib.Core.Bool.{◌||◌}
use borrow.Author.Rules.{rules}
use borrow.Author.Tests.{tests}
use lib.Dec.{eqb}
use Rattle.std.proofs.lemmas.Iterator.{YieldsList-from_slice}
use Rattle.std.proofs.lemmas.Iterator.Search.{position_from_yields_List}
use Rattle.label.proofs.OutcomeLaws.{searched_all}
use Rattle.label.proofs.first_unwritable.Goals as goal

pub returns : goal.returns
returns c =
    let s = c.args.value.now in
    position_from_yields_List (λ b. eqb b 10 || eqb b 34) _ _ c.position.result c.position.ensures.ran (YieldsList-from_slice s cc) (λ x b q k. search (rules, tests)) ∙ searched_all s _ refl
