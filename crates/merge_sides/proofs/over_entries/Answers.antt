-- `merge_sides::over_entries` meets its contract. Assumes nothing.
use Rattle.std.proofs.Common.{◌∙◌, nat_lt, rules, arith}
use borrow.Author.Tests.{tests}
use Rattle.std.proofs.lemmas.Iterator.{YieldsList-from_slice}
use Rattle.std.proofs.lemmas.Iterator.Search.{any_from_yields_List}
use Rattle.merge_sources.specs.declared.Source.{Source}
use Rattle.merge_sides.proofs.Walks.{entries_any}
use Rattle.merge_sides.proofs.over_entries.Goals as goal

pub returns : goal.returns
returns c =
    any_from_yields_List (λ (e : Source). nat_lt 65535 e.number) _ _ _ c.any.ensures.ran (YieldsList-from_slice c.args.r.entries (cc)) (λ x b q k. search (rules, tests))
    ∙ entries_any c.args.r.entries 0 16 (omega arith)
