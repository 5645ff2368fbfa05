-- `utf8_screening::plain::each_plain` meets its contract. Assumes nothing.
use mathlib.Core.Path.{◌∙◌}
use borrow.Author.Rules.{rules}
use mathlib.Core.Bool.{not}
use Rattle.std.proofs.lemmas.Iterator.{YieldsList-from_slice}
use Rattle.std.proofs.lemmas.Iterator.Search.{all_from_yields_List}
use Rattle.utf8_screening.specs.Plain.{odd}
use Rattle.utf8_screening.proofs.PlainLaws.{plain_is, mark_none}
use Rattle.utf8_screening.proofs.plain.each_plain.Goals as goal

pub returns : goal.returns
returns c =
    let s = c.args.s.now in
    all_from_yields_List (λ b. not (odd b)) _ _ c.all.result c.all.ensures.ran (YieldsList-from_slice s cc) (λ x b q k. search (rules, mark_none)) ∙ plain_is s
