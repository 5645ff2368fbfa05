-- `merge_sources::search` meets its contract. Assumes nothing.
use Rattle.std.proofs.Common.{◌∙◌, sym, take, nat_eq, rules, arith}
use borrow.Author.Tests.{tests}
use Rattle.std.proofs.lemmas.Iterator.{YieldsList-from_slice}
use Rattle.std.proofs.lemmas.Iterator.Search.{position_from_yields_List}
use Rattle.merge_sources.specs.declared.Source.{Source}
use Rattle.merge_sources.proofs.Searches.{first_is}
use Rattle.merge_sources.proofs.search.Goals as goal

pub returns : goal.returns
returns c =
    let n = c.args.number in
    let es = take c.min-end.result c.args.r.entries in
    position_from_yields_List (λ (e : Source). nat_eq e.number n) _ _ _ c.position.ensures.ran (YieldsList-from_slice es (cc)) (λ x b q k. search (rules, tests))
    ∙ sym (first_is c.args.r.entries n c.args.r.count c.min-end.result c.min-end.ensures (omega arith))
