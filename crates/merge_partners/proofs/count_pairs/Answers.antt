-- `merge_partners::count_pairs` meets its contract. Assumes nothing.
use Rattle.std.proofs.Common.{◌∙◌, not, nat_eq, rules, arith}
use borrow.Author.Tests.{tests}
use Rattle.std.proofs.lemmas.Iterator.{YieldsList-from_slice}
use Rattle.std.proofs.lemmas.Iterator.Consumers.{YieldsList-from_filter, YieldsList-at, count_from_yields_List}
use Rattle.merge_partners.proofs.WalkLaws.{partners_counted}
use Rattle.merge_partners.proofs.count_pairs.Goals as goal

pub returns-clause-value : goal.returns-clause-value
returns-clause-value c =
    let p = c.args.p.now in
    count_from_yields_List _ _ c.count.ensures.ran
    (YieldsList-from_filter _ (λ n. not (nat_eq n 0)) (YieldsList-at c.filter.ensures.source (YieldsList-from_slice p (cc))) c.filter.ensures.closure
    (λ x b q k. search (rules, tests)))
    ∙ partners_counted p 0 4096 (omega arith)
