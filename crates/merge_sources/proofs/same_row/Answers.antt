-- `merge_sources::same_row` meets its contract. Assumes nothing.
use Rattle.std.proofs.Common.{◌∙◌, refl, arith}
use Rattle.merge_sources.proofs.Searches.{rows_are}
use Rattle.merge_sources.proofs.same_row.Goals as goal

pub returns : goal.returns
returns c = c.eq.ensures ∙ rows_are _ (λ x y. refl) c.args.a c.args.b (omega arith) (omega arith)
