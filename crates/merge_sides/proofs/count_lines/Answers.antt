-- `merge_sides::count_lines` meets its contract. Assumes nothing.
use Rattle.std.proofs.Common.{◌∙◌, refl, nat_eq, rules, arith}
use borrow.Author.Tests.{tests}
use Rattle.std.proofs.lemmas.Iterator.{YieldsList-from_range}
use Rattle.std.proofs.lemmas.Iterator.Consumers.{YieldsList-from_filter, YieldsList-at, count_from_yields_List}
use Rattle.merge_sides.specs.Lines.{field_at}
use Rattle.merge_sides.proofs.Walks.{lines_counted}
use Rattle.merge_sides.proofs.count_lines.Goals as goal

pub returns : goal.returns
returns c =
    let rs = c.args.rs.now in
    let n = c.args.n in
    count_from_yields_List _ _ c.count.ensures.ran
    (YieldsList-from_filter _ (λ j. nat_eq (field_at rs j 0) c.args.row) (YieldsList-at c.filter.ensures.source (YieldsList-from_range 0 n n refl (omega arith))) c.filter.ensures.closure
    (λ x b q k. search (rules, tests)))
    ∙ lines_counted rs c.args.row 0 n
