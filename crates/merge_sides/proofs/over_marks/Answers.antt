-- `merge_sides::over_marks` meets its contract. Assumes nothing.
use Rattle.std.proofs.Common.{◌∙◌, ap, take, nat_lt, rules, arith}
use borrow.Author.Tests.{tests}
use Rattle.std.proofs.lemmas.Iterator.{YieldsList-from_slice}
use Rattle.std.proofs.lemmas.Iterator.Search.{any_from_yields_List}
use Rattle.merge_sides.specs.Marks.{over_from, over_marks}
use Rattle.merge_sides.proofs.Walks.{over_any}
use Rattle.merge_sides.proofs.over_marks.Goals as goal

pub returns : goal.returns
unfolding over_marks
returns c =
    let xs = c.args.marks.now in
    let n = c.min-end.result in
    any_from_yields_List (λ x. nat_lt 65535 x) _ _ _ c.any.ensures.ran (YieldsList-from_slice (take n xs) (cc)) (λ x b q k. search (rules, tests))
    ∙ over_any xs 0 n (omega arith) ∙ ap (over_from xs 0) c.min-end.ensures
